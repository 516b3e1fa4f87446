-- `next_due` looks at one due slot a turn.
use Rattle.port.specs.PortWork.{NoneDue}
use Rattle.port.proofs.queue.Waiting.next_due.Given as goal

abbrev pub invariant-loop-due : goal.invariant-loop-due
invariant-loop-due l = NoneDue l.self.totals l.from l.due
