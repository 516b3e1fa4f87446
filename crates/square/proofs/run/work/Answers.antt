-- `work` takes one turn a slot.
use mathlib.Core.Path.{refl}
use Prim.Native.Nat.{ℕ}
use native.Mathlib.Omega.{arith}
use lib.ListN.{replicate, length-replicate}
use Rattle.calculus.proofs.Numbers.Lists.{all-zero}
use Rattle.square.proofs.RunLoop.{look_reaches, turn_low, turn-arrived, turn_takes, turn-drops, turn-leaves, turn_next, turn-first, turn_last}
use Rattle.settings.proofs.LookedAhead.{looks-ahead}
use borrow.Author.Rules.{rules}
use Rattle.square.proofs.run.work.Goals as goal

pub loop-t-init : goal.loop-t-init
loop-t-init c =
    let z = c.args in
    let pre = c.requires in
    turn-first z.bounds.now z.delay z.buffer z.arrivals.now _ _ _ pre (replicate 33 0) z.admitted.now z.dropped.now
    z.departed.now (length-replicate {A = ℕ} 33 0) (all-zero 33) pre.long_ins pre.long_drops pre.long_outs

pub least_sum-soon-requires : goal.least_sum-soon-requires
least_sum-soon-requires c =
    let z = c.args in
    let pre = c.requires in
    let l = c.loop-t in
    let look = c.looked_ahead-ahead in
    let told = looks-ahead look.ensures in (
      search rules,
      omega (arith, pre.reached.slots),
      omega (arith, pre.reached.slots),
      turn_low z.bounds.now z.delay z.buffer
          z.arrivals.now _ _ _ pre look.result told.1 told.2 l.t l.x l.y l.totals l.admitted l.dropped l.departed
          l.invariant (search rules),
      pre.small,
    )

pub least_sum-late-requires : goal.least_sum-late-requires
least_sum-late-requires c =
    let z = c.args in
    let pre = c.requires in
    let l = c.loop-t in
    let look = c.looked_ahead-ahead in
    let told = looks-ahead look.ensures in (
      search rules,
      omega (arith, pre.reached.slots),
      look_reaches z.bounds.now z.delay z.buffer z.arrivals.now _ _ _ pre look.result told.1 told.2 l.t (search rules),
      turn_low z.bounds.now z.delay z.buffer z.arrivals.now _ _ _ pre look.result told.1 told.2 l.t l.x l.y
          l.totals l.admitted l.dropped l.departed l.invariant (search rules),
      pre.small,
    )

pub loop-t-preserved : goal.loop-t-preserved
loop-t-preserved c =
    let z = c.args in
    let pre = c.requires in
    let l = c.loop-t in
    let look = c.looked_ahead-ahead in
    let told = looks-ahead look.ensures in
    turn_next z.bounds.now z.delay z.buffer z.arrivals.now _ _ _ pre look.result told.1 told.2 l.t l.x l.y
    l.totals l.admitted l.dropped l.departed l.invariant (search rules) _ c.least_sum-soon.result
    c.least_sum-late.result c.within_limits-total.result c.min-gone.result refl
    c.least_sum-soon.ensures c.least_sum-late.ensures c.within_limits-total.ensures
    c.min-gone.ensures

pub returns : goal.returns
returns c =
    let z = c.args in
    let pre = c.requires in
    let l = c.loop-t in
    turn_last z.bounds.now z.delay z.buffer z.arrivals.now _ _ _ pre l.t l.x l.y l.totals l.admitted l.dropped
    l.departed l.invariant (search rules)

pub overflow_add-next-in-loop-t : goal.overflow_add-next-in-loop-t
overflow_add-next-in-loop-t c =
    let z = c.args in
    let pre = c.requires in
    let l = c.loop-t in
    let look = c.looked_ahead-ahead in
    let told = looks-ahead look.ensures in
    let far = look_reaches z.bounds.now z.delay z.buffer z.arrivals.now _ _ _ pre look.result told.1 told.2 l.t (search rules) in
    search (rules, far)

pub overflow_add-x : goal.overflow_add-x
overflow_add-x c =
    let z = c.args in
    let pre = c.requires in
    let l = c.loop-t in
    let look = c.looked_ahead-ahead in
    let told = looks-ahead look.ensures in
    let few = turn-arrived z.bounds.now z.delay z.buffer z.arrivals.now _ _ _ pre look.result told.1 told.2 l.t l.x
    l.y l.totals l.admitted l.dropped l.departed l.invariant (search rules) _ refl in
    search (rules, few)

pub overflow_sub-taken : goal.overflow_sub-taken
overflow_sub-taken c =
    let z = c.args in
    let pre = c.requires in
    let l = c.loop-t in
    let look = c.looked_ahead-ahead in
    let told = looks-ahead look.ensures in
    turn_takes z.bounds.now z.delay z.buffer z.arrivals.now _ _ _ pre look.result told.1 told.2 l.t l.x l.y
    l.totals l.admitted l.dropped l.departed l.invariant (search rules) _ c.least_sum-soon.result
    c.least_sum-late.result c.within_limits-total.result c.min-gone.result refl
    c.least_sum-soon.ensures c.least_sum-late.ensures c.within_limits-total.ensures
    c.min-gone.ensures

pub overflow_sub-dropped : goal.overflow_sub-dropped
overflow_sub-dropped c =
    let z = c.args in
    let pre = c.requires in
    let l = c.loop-t in
    let look = c.looked_ahead-ahead in
    let told = looks-ahead look.ensures in
    turn-drops z.bounds.now z.delay z.buffer z.arrivals.now _ _ _ pre look.result told.1 told.2 l.t l.x l.y
    l.totals l.admitted l.dropped l.departed l.invariant (search rules) _ c.least_sum-soon.result
    c.least_sum-late.result c.within_limits-total.result c.min-gone.result refl
    c.least_sum-soon.ensures c.least_sum-late.ensures c.within_limits-total.ensures
    c.min-gone.ensures

pub overflow_sub-departed : goal.overflow_sub-departed
overflow_sub-departed c =
    let z = c.args in
    let pre = c.requires in
    let l = c.loop-t in
    let look = c.looked_ahead-ahead in
    let told = looks-ahead look.ensures in
    turn-leaves z.bounds.now z.delay z.buffer z.arrivals.now _ _ _ pre look.result told.1 told.2 l.t l.x l.y
    l.totals l.admitted l.dropped l.departed l.invariant (search rules) _ c.least_sum-soon.result
    c.least_sum-late.result c.within_limits-total.result c.min-gone.result refl
    c.least_sum-soon.ensures c.least_sum-late.ensures c.within_limits-total.ensures
    c.min-gone.ensures
