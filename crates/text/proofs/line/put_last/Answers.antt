-- `put_last` puts a field and the line feed.
use Rattle.text.specs.Lines.{numbers}
use Rattle.text.proofs.Put.{put_then}
use Rattle.text.proofs.line.put_last.Goals as goal

pub returns : goal.returns
unfolding numbers
returns c =
    put_then c.put_field-place.ensures c.put_byte.ensures
