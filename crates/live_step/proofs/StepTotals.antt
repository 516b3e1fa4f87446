-- A step, call by call, is what its definition says.
use mathlib.Core.Path.{◌≡◌, refl, sym, ap, ap₂, ◌∙◌}
use mathlib.Core.List.{List}
use Prim.Native.Nat.{ℕ, ◌+◌, ◌-◌, ◌≤◌, ◌<◌, min}
use native.Mathlib.Omega.{arith}
use lib.ListN.{length, get_or, take, drop, length-drop}
use Rattle.calculus.specs.Numbers.Limit.{Limit, none, at_most}
use Rattle.numbers.specs.LeastSum.{least_sum, least_sum_from}
use Rattle.numbers.proofs.LeastSum.{drop_whole, least_sum_cong}
use Rattle.live_step.specs.PastPart.{SamePlaces}
use Rattle.live_step.specs.Step.{forecast_at, forecast_late, totals_with, moved_on, step_admitted, step_departed, step_row, Stepped}
use Rattle.live_step.specs.declared.step.Totals.{Totals}

module _ (last : ℕ) (d q : Limit) (near row : List ℕ) (x n : ℕ) where
  pub step-made : (soon late y : ℕ) (totals : Totals) (after : List ℕ) → soon ≡ forecast_at last near row 0 → late ≡ forecast_late last d near row
      → y ≡ get_or row 0 0 → totals ≡ totals_with soon late y q x n → after ≡ moved_on last row totals.departed soon late → Stepped last d q near row x n totals after
  unfolding step_admitted step_departed step_row
  step-made soon late y totals after e1 e2 e0 e3 e4 =
      let same : totals ≡ totals_with (forecast_at last near row 0) (forecast_late last d near row) (get_or row 0 0) q x n =
      e3 ∙ ap₂ (λ (s l : ℕ). totals_with s l y q x n) e1 e2 ∙ ap (λ (y : ℕ). totals_with (forecast_at last near row 0) (forecast_late last d near row) y q x n) e0 in
      record {
        admits = ap (λ (t : Totals). t.admitted) same;
        departs = ap (λ (t : Totals). t.departed) same;
        moves = e4 ∙ ap (λ (t : Totals). moved_on last row t.departed soon late) same ∙ ap₂ (moved_on last row _) e1 e2;
      }

-- Where the settings are those of a set-up, the forecasts are over the last L places.
pub forecast-near : (last : ℕ) (near row : List ℕ) (h : ℕ) → last ≤ 64 → 64 ≤ length row → length near ≡ 129 → h ≤ 64 → least_sum row (drop (h + 1) near) last ≡ forecast_at last near row h
unfolding forecast_at least_sum_from
forecast-near last near row h p q r t =
    let count : min last (min (length row - 0) (length near - (h + 1))) ≡ last = omega arith in
    rw count

-- Two rows have the last L places.
pub near-places : (last : ℕ) (near row : List ℕ) → last ≤ 64 → 64 ≤ length row → length near ≡ 129
    → min last (min (length row) (length (take (length near - 1) (drop 1 near)))) ≡ last
near-places last near row p q r = rw (drop_whole 1 near) (omega (arith, length-drop 1 near))

-- Three rows have the last L places.
pub pair-places : (last from : ℕ) (near row : List ℕ) → last ≤ 64 → 64 ≤ length row → length near ≡ 129 → from ≤ 65
    → min (min last (length row)) (min (length (take (length near - 1) (drop 1 near))) (length (take (length near - from) (drop from near)))) ≡ last
pair-places last from near row p q r t =
    rw (drop_whole from near, drop_whole 1 near) (omega (arith, length-drop from near, length-drop 1 near))

early_place : (i last x : ℕ) → last ≤ 64 → i < min last x → i < 64
early_place i last x p q = omega arith

min_within : (last a x : ℕ) → last ≤ a → min last (min a x) ≡ min last x
min_within last a x p = omega arith

-- A forecast over the past by itself is the one over the row.
pub forecast-past : (last : ℕ) (near past row : List ℕ) (h : ℕ) → last ≤ 64 → SamePlaces 64 past row → forecast_at last near past h ≡ forecast_at last near row h
unfolding forecast_at least_sum_from
forecast-past last near past row h most same =
    let count : min last (min (length past - 0) (length near - (h + 1))) ≡ min last (min (length row - 0) (length near - (h + 1))) =
    min_within last (length past - 0) (length near - (h + 1)) (omega (arith, same.long)) ∙ sym (min_within last (length row - 0) (length near - (h + 1)) (omega (arith, same.within))) in
    rw count (least_sum_cong past row (drop (h + 1) near) (min last (min (length row - 0) (length near - (h + 1)))) (λ i p. same.same i (early_place i last _ most p)))

pub late-past : (last : ℕ) (d : Limit) (near past row : List ℕ) → last ≤ 64 → SamePlaces 64 past row → forecast_late last d near past ≡ forecast_late last d near row
unfolding forecast_late
late-past last none near past row most same = refl
late-past last (at_most h) near past row most same = forecast-past last near past row h most same
