-- `slot` sends what comes past the queue, or serves the queue.
use native.Mathlib.Omega.{arith}
use Rattle.port.proofs.PassedSlot.{slot_passed}
use Rattle.port.proofs.run.Port.slot.Goals as goal

pub returns-then-comes-self : goal.returns-then-comes-self
returns-then-comes-self c =
    let z = c.args in
    slot_passed z.self.now.deadlines.now z.self.now.slots z.self.now.capacity z.self.now.input.now z.t z.first z.queue.now.row z.queue.now.totals z.sent.now
    z.late.now c.requires.0 c.requires.3 _ _ c.pass-comes.ensures c.requires.1 z.self.now.reach.nearest z.self.now.reach.furthest
    c.requires.2 (omega (arith, c.if-first-t.true)) c.if-comes-self.true
