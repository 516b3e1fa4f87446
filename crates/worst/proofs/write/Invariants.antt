-- `write` gives each slot as much as it may.
use lib.ListN.{length}
use Rattle.worst.proofs.WorstWritten.{Writing}
use Rattle.worst.proofs.write.Given as goal

abbrev pub invariant-loop-place : goal.invariant-loop-place
invariant-loop-place l = Writing l.most l.all (length l.fn.list) l.place-items l.left l.place-index
