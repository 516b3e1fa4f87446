-- `closed` works the rows one after another.
use Rattle.square.proofs.ClosedPlaces.{RowsTo}
use Rattle.square.proofs.close.closed.Given as goal

abbrev pub invariant-loop-s : goal.invariant-loop-s
invariant-loop-s l = RowsTo l.square l.s l.made
