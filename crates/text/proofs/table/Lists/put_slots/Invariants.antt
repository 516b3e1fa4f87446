-- `put_slots` puts one line a turn, of at most 64 bytes.
use Rattle.text.proofs.Slots.{SlotsPut}
use Rattle.text.proofs.table.Lists.put_slots.Given as goal

abbrev pub invariant-loop-t : goal.invariant-loop-t
invariant-loop-t l =
    SlotsPut l.self.arrived.now l.self.admitted.now l.self.dropped.now l.self.departed.now l.initial.out l.at l.out l.admitted_total l.departed_total l.place l.t
