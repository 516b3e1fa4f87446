-- `preview` lends the parts of its regulator.
use Rattle.preview.proofs.next.preview.Goals as goal

pub returns : goal.returns
returns c = let r = c.args.r in c.preview_on.ensures r.form_peak.0 r.bench_peak.0
