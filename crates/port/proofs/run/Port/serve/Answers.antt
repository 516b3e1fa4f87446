-- `serve` takes the arrivals, sends, lists and counts what is late.
use mathlib.Core.Path.{refl}
use Rattle.port.proofs.PortLists.{zeros}
use Rattle.port.proofs.PortSlot.{arrive_asks, send_asks, late_asks, slot_kept}
use Rattle.port.proofs.run.Port.serve.Goals as goal

pub arrive-requires : goal.arrive-requires
arrive-requires c =
    let z = c.args in
    arrive_asks z.self.now.deadlines.now z.self.now.slots z.self.now.capacity z.self.now.input.now z.t z.first z.queue.now.row z.queue.now.totals z.sent.now
    z.late.now c.requires.0 c.requires.1 c.requires.3

pub send-next-requires : goal.send-next-requires
send-next-requires c =
    let z = c.args in
    send_asks z.self.now.deadlines.now z.self.now.slots z.self.now.capacity z.self.now.input.now z.t z.first z.queue.now.row z.queue.now.totals z.sent.now
    z.late.now c.requires.0 c.requires.1 c.requires.3 _ c.arrive.ensures.0 z.self.now.reach.nearest z.self.now.reach.furthest _ _
    c.requires.2 c.min-from.ensures refl _ _ c.arrive.ensures.1
    (zeros 8)

pub count_late-requires : goal.count_late-requires
count_late-requires c =
    let z = c.args in
    late_asks z.self.now.deadlines.now z.self.now.slots z.self.now.capacity z.self.now.input.now z.t z.first z.queue.now.row z.queue.now.totals z.sent.now
    z.late.now c.requires.0 c.requires.1 c.requires.3 _ c.arrive.ensures.0 z.self.now.reach.nearest z.self.now.reach.furthest _ _
    c.requires.2 c.min-from.ensures refl _ _ _ _ c.send-next.ensures.1

pub returns : goal.returns
returns c =
    let z = c.args in
    slot_kept z.self.now.deadlines.now z.self.now.slots z.self.now.capacity z.self.now.input.now z.t z.first z.queue.now.row z.queue.now.totals z.sent.now
    z.late.now c.requires.0 c.requires.1 c.requires.3 _ c.arrive.ensures.0 z.self.now.reach.nearest z.self.now.reach.furthest _ _
    c.requires.2 c.min-from.ensures refl _ _ _ _ c.send-next.ensures.1 _ _ c.list.ensures
    c.count_late.ensures
