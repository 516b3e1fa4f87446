-- `list` takes the counts between both totals, slot by slot.
use mathlib.Core.Path.{refl}
use Prim.Native.Nat.{◌+◌}
use Rattle.pencil.proofs.Pencilled.{working_earlier}
use Rattle.pencil.proofs.FilledLists.{listing-first, listing_takes, listing-drops, listing-leaves, listing_next, listing-last}
use borrow.Author.Rules.{rules}
use Rattle.pencil.proofs.run.list.Goals as goal

pub loop-t-init : goal.loop-t-init
loop-t-init c =
    let z = c.args in
    let pre = c.requires in
    listing-first z.work.now.table.now z.work.now.near.now z.work.now.delay z.work.now.buffer z.work.now.arrivals.now pre.0 z.admitted.now z.dropped.now
    z.departed.now pre.1 pre.2 pre.3

pub admitted_total-total-requires : goal.admitted_total-total-requires
admitted_total-total-requires c =
    let z = c.args in
    let ok = c.requires.0 in
    let l = c.loop-t in
    working_earlier z.work.now.table.now z.work.now.near.now z.work.now.delay z.work.now.buffer z.work.now.arrivals.now _ ok (l.t + 1) (search rules)

pub departed_total-gone-requires : goal.departed_total-gone-requires
departed_total-gone-requires c =
    let z = c.args in
    let ok = c.requires.0 in
    let l = c.loop-t in
    working_earlier z.work.now.table.now z.work.now.near.now z.work.now.delay z.work.now.buffer z.work.now.arrivals.now _ ok (l.t + 1) (search rules)

pub loop-t-preserved : goal.loop-t-preserved
loop-t-preserved c =
    let z = c.args in
    let ok = c.requires.0 in
    let l = c.loop-t in
    listing_next z.work.now.table.now z.work.now.near.now z.work.now.delay z.work.now.buffer z.work.now.arrivals.now ok l.t l.x l.y l.admitted l.dropped
    l.departed l.invariant c.admitted_total-total.result c.departed_total-gone.result _ c.admitted_total-total.ensures
    c.departed_total-gone.ensures refl (search rules)

pub returns : goal.returns
returns c =
    let z = c.args in
    let ok = c.requires.0 in
    let l = c.loop-t in
    listing-last z.work.now.table.now z.work.now.near.now z.work.now.delay z.work.now.buffer z.work.now.arrivals.now ok l.t l.x l.y l.admitted l.dropped
    l.departed l.invariant (search rules)

pub overflow_sub-taken : goal.overflow_sub-taken
overflow_sub-taken c =
    let z = c.args in
    let ok = c.requires.0 in
    let l = c.loop-t in
    let fact = listing_takes z.work.now.table.now z.work.now.near.now z.work.now.delay z.work.now.buffer z.work.now.arrivals.now ok l.t l.x l.y l.admitted
    l.dropped l.departed l.invariant c.admitted_total-total.result c.departed_total-gone.result _ c.admitted_total-total.ensures
    c.departed_total-gone.ensures refl in
    search (rules, fact)

pub overflow_sub-dropped : goal.overflow_sub-dropped
overflow_sub-dropped c =
    let z = c.args in
    let ok = c.requires.0 in
    let l = c.loop-t in
    let fact = listing-drops z.work.now.table.now z.work.now.near.now z.work.now.delay z.work.now.buffer z.work.now.arrivals.now ok l.t l.x l.y l.admitted
    l.dropped l.departed l.invariant c.admitted_total-total.result c.departed_total-gone.result _ c.admitted_total-total.ensures
    c.departed_total-gone.ensures refl in
    search (rules, fact)

pub overflow_sub-departed : goal.overflow_sub-departed
overflow_sub-departed c =
    let z = c.args in
    let ok = c.requires.0 in
    let l = c.loop-t in
    let fact = listing-leaves z.work.now.table.now z.work.now.near.now z.work.now.delay z.work.now.buffer z.work.now.arrivals.now ok l.t l.x l.y l.admitted
    l.dropped l.departed l.invariant c.admitted_total-total.result c.departed_total-gone.result _ c.admitted_total-total.ensures
    c.departed_total-gone.ensures refl in
    search (rules, fact)
