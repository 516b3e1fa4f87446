-- `both_forecasts` takes both at once where it may.
use mathlib.Core.Path.{ap, ap₂, ◌∙◌}
use Prim.Native.Nat.{ℕ, ◌+◌, ◌≤◌}
use native.Mathlib.Omega.{arith}
use borrow.Author.Rules.{rules}
use borrow.Author.Tests.{ne_eqb}
use Rattle.calculus.specs.Numbers.Limit.{limit_unless}
use Rattle.numbers.specs.LeastSum.{least_sum}
use Rattle.numbers.proofs.LeastSum.{drop_whole}
use Rattle.least_sum.specs.Pushed.{pushed}
use Rattle.refusals.specs.Limits.{delay_limit}
use Rattle.live_step.specs.Step.{forecast_late}
use Rattle.live_step.proofs.StepTotals.{forecast-near, near-places, pair-places}
use Rattle.regulator.proofs.step.both_forecasts.Goals as goal

pub returns-then-delay-gt-LONGEST_DELAY : goal.returns-then-delay-gt-LONGEST_DELAY
returns-then-delay-gt-LONGEST_DELAY c =
    let z = c.args in
    let pre = c.requires in
    let moved = c.least_moved-soon.ensures in
    let count = near-places z.last z.near.now z.row.now pre.2 pre.0 pre.1 in (
      moved.0 ∙ ap₂ (least_sum z.row.now) (drop_whole 1 z.near.now) count ∙ forecast-near z.last z.near.now z.row.now 0 pre.2
          pre.0 pre.1 (omega arith),
      c.forecast_late-late.ensures,
      moved.1 ∙ ap (λ (n : ℕ). pushed n 0 z.row.now) count,
    )

pub returns : goal.returns
unfolding forecast_late delay_limit limit_unless
returns c =
    let z = c.args in
    let pre = c.requires in
    let moved = c.pair_moved-both.ensures in
    let ahead : z.delay ≤ 64 = search rules in
    let count = pair-places z.last (z.delay + 1) z.near.now z.row.now pre.2 pre.0 pre.1 (omega arith) in (
      moved.0 ∙ ap₂ (least_sum z.row.now) (drop_whole 1 z.near.now) count ∙ forecast-near z.last z.near.now z.row.now 0 pre.2
          pre.0 pre.1 (omega arith),
      rw (ne_eqb z.delay 255 (search rules))
          (moved.1 ∙ ap₂ (least_sum z.row.now) (drop_whole (z.delay + 1) z.near.now) count ∙ forecast-near z.last z.near.now
          z.row.now z.delay pre.2 pre.0 pre.1 ahead),
      moved.2 ∙ ap (λ (n : ℕ). pushed n 0 z.row.now) count,
    )
