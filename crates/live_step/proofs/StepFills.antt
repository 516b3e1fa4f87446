-- The fills of a slot's record: after a step from whatever row and totals, 64 bits hold them, and no more departs than is there.
use mathlib.Core.Path.{◌≡◌}
use mathlib.Core.List.{List}
use Prim.Native.Nat.{ℕ, ◌+◌, ◌≤◌, min}
use native.Mathlib.Omega.{arith}
use lib.ListN.{get_or}
use Rattle.calculus.specs.Numbers.Limit.{Limit, map_limit}
use Rattle.calculus.proofs.Numbers.Limit.{cut_under}
use Rattle.numbers.specs.LeastSum.{top}
use Rattle.live_step.specs.Record.{record_by}
use Rattle.live_step.specs.Step.{forecast_late, step_admitted, step_departed, Stepped}
use Rattle.live_step.specs.declared.record.SlotRecord.{SlotRecord}
use Rattle.live_step.specs.declared.step.Totals.{Totals}

module _ (last : ℕ) (d q : Limit) (near row : List ℕ) (x₀ n : ℕ) (totals : Totals) (after : List ℕ) (stepped : Stepped last d q near row x₀ n totals after) where
  admits-top : totals.admitted ≤ top
  unfolding step_admitted
  admits-top = rw stepped.admits (omega (arith, cut_under (min (min (x₀ + n) top) (forecast_late last d near row)) (map_limit (λ b. min (get_or row 0 0 + b) top) q)))

  departs-admitted : totals.departed ≤ totals.admitted
  unfolding step_departed
  departs-admitted = rw (stepped.departs, stepped.admits) (omega arith)

  pub step_fills : (y₀ : ℕ) (kept : SlotRecord) → x₀ ≤ top → kept ≡ record_by totals.admitted totals.departed x₀ y₀ n
      → (kept.held_before + kept.admitted ≤ top) × (kept.departed ≤ kept.held_before + kept.admitted)
  step_fills y₀ kept p e = rw e (omega (arith, admits-top), omega (arith, departs-admitted))
