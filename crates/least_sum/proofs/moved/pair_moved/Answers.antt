-- `pair_moved` does what `least_moved` does, with two sums a place.
use Rattle.std.proofs.Common.{◌+◌, set, refl, ap, rules}
use Rattle.numbers.specs.LeastSum.{least_sum}
use Rattle.least_sum.proofs.Pushed.{moving_none, moving_long, moving_more, moving-least, moving-least_four}
use Rattle.least_sum.proofs.moved.pair_moved.Goals as goal

pub loop-i-init : goal.loop-i-init
unfolding least_sum
loop-i-init c = (search rules, search rules, search rules, moving_none c.args.row.now)

pub loop-i-preserved : goal.loop-i-preserved
loop-i-preserved c =
    let l = c.loop-i in
    let z = c.args in
    let moving = l.invariant.3 in
    let long = moving_long z.row.now l.i l.row l.before moving in
    let least = moving-least z.row.now l.i l.row l.before moving in (
      l.invariant.0,
      least z.b.now _ _ _ l.invariant.1 c.sum_at.ensures c.min-first.ensures,
      least z.c.now _ _ _ l.invariant.2 c.sum_at-in-loop-i.ensures c.min-second.ensures,
      moving_more z.row.now l.i l.row l.before moving (l.i + 1) _ _ refl (search rules) c.replace-before.ensures.value (ap (set l.row l.i) c.replace-before.ensures.after),
    )

pub loop-i-2-preserved : goal.loop-i-2-preserved
loop-i-2-preserved c =
    let l = c.loop-i-2 in
    let z = c.args in
    let least = moving-least_four z.row.now l.i l.row l.before l.invariant.5 in (
      search rules,
      search rules,
      l.invariant.2,
      least z.b.now _ _ _ l.invariant.3 c.four.ensures c.min-first-in-loop-i-2.ensures,
      least z.c.now _ _ _ l.invariant.4 c.four-in-loop-i-2.ensures c.min-second-in-loop-i-2.ensures,
      c.four_moved-before.ensures z.row.now l.invariant.5,
    )
