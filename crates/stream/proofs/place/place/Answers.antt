-- `place` places the bursts from the last to the first: those from burst k on are placed.
use mathlib.Core.Path.{◌∙◌}
use native.Mathlib.Omega.{arith}
use borrow.Author.Rules.{rules}
use Rattle.stream.proofs.PlacedBurst.{cleared, arrived_next}
use Rattle.stream.proofs.place.place.Goals as goal

pub loop-k-init : goal.loop-k-init
loop-k-init c = cleared c.args.file.now _ _ c.number_at-bursts.result (c.fill.ensures.after (search rules)) (omega (arith, c.number_at-bursts.ensures))

pub loop-k-preserved : goal.loop-k-preserved
loop-k-preserved c =
    let slot = rw c.number_at.ensures at c.number_at-slot.ensures in
    let count = rw (c.number_at.ensures, c.number_at-bursts.ensures) at c.number_at-count.ensures in
    c.put_burst.ensures ∙ rw c.loop-k.invariant
    (arrived_next c.args.file.now _ c.loop-k.k c.number_at-slot.result c.number_at-count.result (omega arith) (omega (arith, c.number_at-bursts.ensures)) slot count)
