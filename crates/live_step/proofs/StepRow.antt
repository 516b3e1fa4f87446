-- The row after a step, place by place: past totals first, the slot's two forecasts at the places 64 and 65, all others as they were.
use mathlib.Core.Path.{◌≡◌, ◌∙◌}
use mathlib.Core.List.{List}
use Prim.Native.Nat.{ℕ, ◌≤◌, ◌<◌}
use native.Mathlib.Omega.{arith}
use lib.ListN.{length, get_or, set, length-set}
use lib.Seq.{get_or-set_same, get_or-set_other}
use Rattle.calculus.specs.Numbers.Limit.{Limit}
use Rattle.least_sum.specs.Pushed.{pushed}
use Rattle.live_step.specs.Step.{forecast_at, forecast_late, step_row}
use Rattle.least_sum.proofs.Pushed.{length-pushed, pushed_beyond}

module _ (last : ℕ) (d : Limit) (near row : List ℕ) (y : ℕ) where
  -- The row keeps its length.
  pub length-step_row : length (step_row last d near row y) ≡ length row
  unfolding step_row
  length-step_row = simp (length-set, length-pushed)

  pub step_row-past : (k : ℕ) → k < 64 → get_or (step_row last d near row y) k 0 ≡ get_or (pushed last y row) k 0
  unfolding step_row
  step_row-past k p =
      get_or-set_other (set (pushed last y row) 64 (forecast_at last near row 0)) 65 k (forecast_late last d near row) 0 (omega arith)
      ∙ get_or-set_other (pushed last y row) 64 k (forecast_at last near row 0) 0 (omega arith)

  pub step_row_rest : (k : ℕ) → last ≤ k → (k ≡ 64 → ⊥) → (k ≡ 65 → ⊥) → get_or (step_row last d near row y) k 0 ≡ get_or row k 0
  unfolding step_row
  step_row_rest k p soon late =
      get_or-set_other (set (pushed last y row) 64 (forecast_at last near row 0)) 65 k (forecast_late last d near row) 0 late
      ∙ get_or-set_other (pushed last y row) 64 k (forecast_at last near row 0) 0 soon
      ∙ pushed_beyond last y row k p

  -- In a row of 192 places the forecast of the slot stands at place 64 and that of its deadline at place 65.
  module _ (long : length row ≡ 192) where
    pub step_row_soon : get_or (step_row last d near row y) 64 0 ≡ forecast_at last near row 0
    unfolding step_row
    step_row_soon =
        get_or-set_other (set (pushed last y row) 64 (forecast_at last near row 0)) 65 64 (forecast_late last d near row) 0 (omega arith)
        ∙ get_or-set_same (pushed last y row) 64 (forecast_at last near row 0) 0 (omega (arith, length-pushed last y row))

    pub step_row-late : get_or (step_row last d near row y) 65 0 ≡ forecast_late last d near row
    unfolding step_row
    step_row-late =
        let places : 65 < length (set (pushed last y row) 64 (forecast_at last near row 0)) =
        omega (arith, length-set (pushed last y row) 64 (forecast_at last near row 0), length-pushed last y row) in
        get_or-set_same (set (pushed last y row) 64 (forecast_at last near row 0)) 65 (forecast_late last d near row) 0 places
