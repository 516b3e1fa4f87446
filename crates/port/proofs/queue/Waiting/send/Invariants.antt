-- `send` serves one due slot a turn.
use Prim.Native.Nat.{◌-◌}
use Rattle.port.proofs.Sending.{Sending}
use Rattle.port.proofs.queue.Waiting.send.Given as goal

abbrev pub invariant-loop-due : goal.invariant-loop-due
invariant-loop-due l = Sending l.streams l.capacity l.to l.initial.self.row l.due l.left l.self.row l.self.totals l.counts

abbrev pub decreases-loop-due : goal.decreases-loop-due
decreases-loop-due l = l.to - l.due
