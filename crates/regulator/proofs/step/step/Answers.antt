-- `step` does what its definition says, call by call.
use mathlib.Core.Path.{refl, ap, ◌∙◌}
use mathlib.Core.List.{List}
use Prim.Native.Nat.{ℕ}
use lib.ListN.{set}
use Rattle.least_sum.specs.Pushed.{newest_put}
use Rattle.least_sum.proofs.Pushed.{pushed_put}
use Rattle.refusals.specs.Limits.{delay_limit, buffer_limit}
use Rattle.live_step.proofs.StepTotals.{step-made}
use Rattle.regulator.proofs.step.step.Goals as goal

pub returns : goal.returns
returns c =
    let z = c.args in
    let both = c.both_forecasts-both in
    let admits = c.admit-totals in
    let departed = admits.result.departed in
    let moved = ap (newest_put z.last departed) both.ensures.2 ∙ pushed_put z.last departed 0 z.row.now in
    step-made z.last (delay_limit z.delay) (buffer_limit z.buffer) z.near.now z.row.now z.admitted z.arrivals
    both.result.soon both.result.late _ admits.result _ both.ensures.0 both.ensures.1 refl admits.ensures
    (ap (λ (l : List ℕ). set (set l 64 both.result.soon) 65 both.result.late) (c.put_newest.ensures ∙ moved))
