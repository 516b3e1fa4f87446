-- `lower` takes one entry a turn.
use Rattle.path.proofs.LoweredRoom.{Lowering}
use Rattle.path.proofs.merge.lower.Given as goal

abbrev pub invariant-loop-k : goal.invariant-loop-k
invariant-loop-k l = Lowering l.table l.initial.room l.room l.k
