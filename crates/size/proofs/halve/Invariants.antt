-- `halve` halves the limits that are left.
use Prim.Native.Nat.{◌-◌}
use Rattle.size_calculus.proofs.Bisection.{Between}
use Rattle.size.specs.Beside.{greatest_beside, loss_beside}
use Rattle.size.proofs.halve.Given as goal

abbrev pub invariant-loop-low : goal.invariant-loop-low
invariant-loop-low l = Between (greatest_beside l.kept) (loss_beside l.table l.kept l.arrivals) l.most l.low l.high

abbrev pub decreases-loop-low : goal.decreases-loop-low
decreases-loop-low l = l.high - l.low
