-- `depart` cuts by one bucket after another.
use mathlib.Core.Path.{◌≡◌, ap, ◌∙◌}
use Prim.Native.Nat.{min}
use Rattle.device.specs.Levels.{buckets_let}
use Rattle.device.proofs.BucketLevels.{depart_next}
use borrow.Author.Rules.{rules}
use Rattle.device.proofs.levels.depart.Goals as goal

pub loop-i-init : goal.loop-i-init
unfolding buckets_let
loop-i-init c = search rules

pub loop-i-preserved : goal.loop-i-preserved
loop-i-preserved c =
    let z = c.args in
    let l = c.loop-i in
    depart_next z.levels.now z.rates.now z.admitted l.i l.total _ l.invariant (c.min-total.ensures ∙ ap (min l.total) c.gain.ensures)

pub returns : goal.returns
returns c =
    let l = c.loop-i in
    let all : l.i ≡ c.args.count = search rules in
    rw all at l.invariant
