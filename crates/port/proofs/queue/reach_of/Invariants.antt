-- `reach_of` looks at one deadline a turn.
use Rattle.port.specs.PortWork.{Deadlines}
use Rattle.port.proofs.queue.reach_of.Given as goal

abbrev pub invariant-loop-deadline : goal.invariant-loop-deadline
invariant-loop-deadline l = Deadlines l.deadlines l.deadline-index l.nearest l.furthest
