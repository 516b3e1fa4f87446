-- `put_slots` puts one line a turn, of at most 64 bytes.
use native.Mathlib.Omega.{arith}
use Rattle.text.proofs.Slots.{slots_none, slots_more}
use Rattle.text.proofs.table.Lists.put_slots.Goals as goal

pub loop-t-init : goal.loop-t-init
loop-t-init c =
    let z = c.args in
    let lists = z.self.now in
    slots_none lists.arrived.now lists.admitted.now lists.dropped.now lists.departed.now z.out.now z.at c.requires.1

pub loop-t-preserved : goal.loop-t-preserved
loop-t-preserved c =
    let z = c.args in
    let lists = z.self.now in
    slots_more lists.arrived.now lists.admitted.now lists.dropped.now lists.departed.now z.out.now z.at c.loop-t.invariant
    c.counts_at-counts.ensures (omega arith) c.put_line-place.ensures
