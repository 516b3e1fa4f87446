-- `send_due` serves one stream a turn.
use Rattle.port.specs.PortWork.{SentDue}
use Rattle.port.proofs.queue.send_due.Given as goal

abbrev pub invariant-loop-i : goal.invariant-loop-i
invariant-loop-i l = SentDue l.base l.i l.left l.initial.row l.initial.counts l.rest l.row l.counts
