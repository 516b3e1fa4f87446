-- `arrive` puts one stream's packets in their place a turn.
use Rattle.port.specs.PortWork.{Queue, Arrived}
use Rattle.port.proofs.queue.Waiting.arrive.Given as goal

abbrev pub invariant-loop-i : goal.invariant-loop-i
invariant-loop-i l =
    Arrived l.deadlines l.slots l.input l.t l.i l.initial.self.row l.self.row × Queue l.self.row l.self.totals
