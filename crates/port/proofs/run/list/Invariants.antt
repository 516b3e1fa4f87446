-- `list` lists one stream's count a turn.
use lib.ListN.{get_or}
use Rattle.port.specs.PortWork.{Written}
use Rattle.port.proofs.run.list.Given as goal

abbrev pub invariant-loop-i : goal.invariant-loop-i
invariant-loop-i l =
    Written l.slots l.t l.i (λ j. get_or l.counts j 0) l.initial.sent l.sent
