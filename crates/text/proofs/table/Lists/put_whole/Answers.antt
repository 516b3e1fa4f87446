-- `put_whole` puts the heading, the lines of the slots and the line of totals: 44 bytes, 64 a slot, and 84.
use native.Mathlib.Omega.{arith}
use lib.ListN.{length-append}
use Rattle.text.specs.Lines.{table_text}
use Rattle.text.proofs.Lines.{heading-length}
use Rattle.text.proofs.Put.{put_then, put_printed}
use Rattle.text.proofs.table.Lists.put_whole.Goals as goal

pub returns : goal.returns
unfolding table_text
returns c =
    let totals = c.put_totals.ensures in
    let slots = c.put_slots-last.ensures in
    let first = c.put_heading-first.ensures in
    put_printed (put_then first (put_then slots.0 totals.0)) (simp length-append (omega (arith, heading-length, slots.1, totals.1)))
