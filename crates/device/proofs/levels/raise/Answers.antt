-- `raise` raises one level after another.
use Rattle.device.proofs.BucketLevels.{raised-first, raised_next, raised-last}
use borrow.Author.Rules.{rules}
use Rattle.device.proofs.levels.raise.Goals as goal

pub loop-i-init : goal.loop-i-init
loop-i-init c = raised-first c.args.levels.now c.args.rates.now c.args.bursts.now c.args.admitted c.requires.0

pub loop-i-preserved : goal.loop-i-preserved
loop-i-preserved c =
    let z = c.args in
    let l = c.loop-i in
    raised_next z.levels.now z.rates.now z.bursts.now z.admitted l.i l.levels l.invariant (search rules) _ c.level_after.ensures

pub returns : goal.returns
returns c =
    let z = c.args in
    let l = c.loop-i in
    raised-last z.levels.now z.rates.now z.bursts.now z.admitted l.i l.levels l.invariant (search rules) (search rules)
