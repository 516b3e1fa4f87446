-- `put_next` puts a field.
use Rattle.row_lines.proofs.Lines.{spaced_one}
use Rattle.row_lines.proofs.put_next.Goals as goal

pub returns : goal.returns
returns c = rw (spaced_one c.args.n) c.put_field.ensures
