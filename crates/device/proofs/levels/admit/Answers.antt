-- `admit` cuts by one bucket after another.
use mathlib.Core.Path.{◌≡◌}
use Rattle.refusals.specs.Limits.{delay_limit}
use Rattle.device.specs.Levels.{buckets_admit}
use Rattle.device.proofs.BucketLevels.{admit_next}
use borrow.Author.Rules.{rules}
use Rattle.device.proofs.levels.admit.Goals as goal

pub loop-i-init : goal.loop-i-init
unfolding buckets_admit
loop-i-init c = search rules

pub loop-i-preserved : goal.loop-i-preserved
loop-i-preserved c =
    let z = c.args in
    let l = c.loop-i in
    admit_next (delay_limit z.delay) z.levels.now z.rates.now z.arrived l.i l.total _ l.invariant c.admit_one-total.ensures

pub returns : goal.returns
returns c =
    let l = c.loop-i in
    let all : l.i ≡ c.args.count = search rules in
    rw all at l.invariant
