-- `put_field` puts a space and the number.
use Rattle.text.proofs.Put.{put_then}
use Rattle.text.proofs.line.put_field.Goals as goal

pub returns : goal.returns
returns c = put_then c.put_byte-place.ensures c.put_number.ensures
