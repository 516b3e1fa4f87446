-- `send_whole` empties one place a turn.
use Rattle.port.specs.PortWork.{SentWhole}
use Rattle.port.proofs.queue.send_whole.Given as goal

abbrev pub invariant-loop-i : goal.invariant-loop-i
invariant-loop-i l = SentWhole l.base l.i l.initial.row l.initial.counts l.row l.counts
