-- `put_word` copies in as much of the word as fits.
use native.Mathlib.Omega.{arith}
use Rattle.text.proofs.Put.{put_copied}
use Rattle.text.proofs.bytes.put_word.Goals as goal

pub returns : goal.returns
returns c = put_copied c.min-from.ensures (omega arith) c.copy_from_slice.ensures.after
