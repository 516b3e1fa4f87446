-- `put_totals` puts the word and the sums, in at most 84 bytes.
use mathlib.Core.Path.{sym, ◌∙◌}
use native.Mathlib.Omega.{arith}
use Rattle.text.specs.Lines.{bytes, line}
use Rattle.text.proofs.Lines.{totals_fit}
use Rattle.text.proofs.Put.{put_then}
use Rattle.text.proofs.Printed.{sum_to-all, totals-line}
use Rattle.text.proofs.table.Lists.put_totals.Goals as goal

pub returns : goal.returns
unfolding line bytes
returns c =
    let held = c.saturating_sub in
    let dropped = c.total-2 in
    let arrived = c.total in
    let departed = c.total-departed in
    let admitted = c.total-admitted in
    let lists = c.args.self.now in
    let fit = totals_fit arrived.result admitted.result dropped.result departed.result held.result arrived.ensures.bounded
    admitted.ensures.bounded dropped.ensures.bounded departed.ensures.bounded (omega arith) in
    rw (totals-line lists.arrived.now lists.admitted.now lists.dropped.now lists.departed.now c.requires arrived.result admitted.result
    dropped.result departed.result held.result (arrived.ensures.added ∙ sym (sum_to-all _)) (admitted.ensures.added ∙ sym (sum_to-all _))
    (dropped.ensures.added ∙ sym (sum_to-all _)) (departed.ensures.added ∙ sym (sum_to-all _)) held.ensures)
    (put_then c.put_word-place.ensures c.put_counts.ensures, omega (arith, fit))
