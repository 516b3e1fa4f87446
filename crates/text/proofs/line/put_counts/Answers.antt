-- `put_counts` puts the five numbers one after the other.
use Rattle.text.specs.Lines.{numbers}
use Rattle.text.proofs.Put.{put_then}
use Rattle.text.proofs.line.put_counts.Goals as goal

pub returns : goal.returns
unfolding numbers
returns c =
    put_then c.put_field-place.ensures (put_then c.put_field-place-2.ensures
    (put_then c.put_field-place-3.ensures (put_then c.put_field-place-4.ensures c.put_last.ensures)))
