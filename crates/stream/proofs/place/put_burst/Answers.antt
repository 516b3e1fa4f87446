-- `put_burst` stores the count where the slot has a place.
use Rattle.std.proofs.Common.{arith}
use Rattle.stream.proofs.PlacedBurst.{placed_none, placed_past, placed_there}
use Rattle.stream.proofs.place.put_burst.Goals as goal
use Rattle.stream.proofs.place.put_burst.Goals.{else-slot-ge1-via-then-slot-ge1+else-slot-arrivals, else-slot-ge1-via-else-slot-ge1}

pub returns-then-slot-arrivals : goal.returns-then-slot-arrivals
returns-then-slot-arrivals c =
    let z = c.args in
    placed_there z.slot z.count z.arrivals.now (λ e. omega arith)

pub returns-else-slot-ge1 : goal.returns-else-slot-ge1
returns-else-slot-ge1 c =
    let z = c.args in
    elim c.else-slot-ge1.branch [
      | else-slot-ge1-via-then-slot-ge1+else-slot-arrivals w ↦ placed_past z.slot z.count z.arrivals.now (λ e. omega arith) (omega arith)
      | else-slot-ge1-via-else-slot-ge1 w ↦ placed_none z.slot z.count z.arrivals.now (omega arith)
    ]
