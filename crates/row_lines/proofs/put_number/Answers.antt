-- `put_number` puts the word and then the number.
use Rattle.text.proofs.Put.{put_then}
use Rattle.row_lines.specs.Lines.{labelled}
use Rattle.row_lines.proofs.Lines.{spaced_one}
use Rattle.row_lines.proofs.put_number.Goals as goal

pub returns : goal.returns
unfolding labelled
returns c =
    rw (spaced_one c.args.n) (put_then c.put_word-place.ensures c.put_field.ensures)
