-- `work` takes one slot a turn.
use Rattle.port.specs.PortWork.{Standing}
use Rattle.port.proofs.run.Port.work.Given as goal

abbrev pub invariant-loop-t : goal.invariant-loop-t
invariant-loop-t l =
    Standing l.self.deadlines.now l.self.slots l.self.capacity l.self.input.now l.t l.first l.queue.row l.queue.totals l.sent l.late
