-- `closed` works the rows one after another.
use native.Mathlib.Omega.{arith}
use Rattle.square.proofs.ClosedPlaces.{rows_end}
use Rattle.square.proofs.close.closed.Goals as goal

pub returns : goal.returns
returns c = rows_end c.args.square.now c.loop-s.s c.loop-s.made c.loop-s.invariant (omega arith)
