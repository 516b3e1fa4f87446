-- `turned` takes the places from the last one back.
use Prim.Native.Nat.{suc, ◌-◌}
use lib.ListN.{get_or}
use Rattle.envelope.proofs.FirstPlaces.{Begun}
use Rattle.envelope.proofs.envelope.turned.Given as goal

abbrev pub invariant-loop-k : goal.invariant-loop-k
invariant-loop-k l = Begun (λ i. get_or l.row (l.count - suc i) 0) 129 l.k l.out
