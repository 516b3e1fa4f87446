-- `count_late` adds one stream's packets a turn.
use Rattle.port.specs.PortWork.{Overdue}
use Rattle.port.proofs.run.count_late.Given as goal

abbrev pub invariant-loop-i : goal.invariant-loop-i
invariant-loop-i l = Overdue l.t l.i l.row l.initial.late l.late
