-- One slot's totals from a row of past departed totals and the envelope's nearest windows, on numbers of 64 bits, for any
-- row and windows whatever. Where they are what a set-up and slots gave, these are theorem 5.1's totals.
use Rattle.std.specs.Prelude.{◌≡◌, ℕ, ◌+◌, min, List, get_or, set}
use Rattle.calculus.specs.Numbers.Limit.{Limit, none, at_most, map_limit, cut}
use Rattle.numbers.specs.LeastSum.{top, least_sum_from}
use Rattle.least_sum.specs.Pushed.{pushed}
use Rattle.live_step.specs.declared.step.Totals.{Totals}

-- the most that may have departed by `ahead` slots after the next one, however much is admitted from the next slot on
unfoldable pub forecast_at : ℕ → List ℕ → List ℕ → ℕ → ℕ
forecast_at last near row ahead = least_sum_from row 0 near (ahead + 1) last

-- the forecast that the delay limit asks for, infinity where it is none
unfoldable pub forecast_late : ℕ → Limit → List ℕ → List ℕ → ℕ
forecast_late last none near row = top
forecast_late last (at_most d) near row = forecast_at last near row d

-- an admitted total, cut down to what the buffer holds besides y, the total that departed before the slot; the sum stops at 2^64 - 1
abbrev pub within_buffer64 : ℕ → Limit → ℕ → ℕ
within_buffer64 y q total = cut total (map_limit (λ b. min (y + b) top) q)

-- the totals after a slot, from its two forecasts: x admitted and y departed before, n arriving
abbrev pub admitted_with : ℕ → ℕ → Limit → ℕ → ℕ → ℕ
admitted_with late y q x n = within_buffer64 y q (min (min (x + n) top) late)

abbrev pub totals_with : ℕ → ℕ → ℕ → Limit → ℕ → ℕ → Totals
totals_with soon late y q x n = record { admitted = admitted_with late y q x n; departed = min (admitted_with late y q x n) soon }

-- the row after the slot, y having departed by then: the total first, the slot's two forecasts at the places 64 and 65
abbrev pub moved_on : ℕ → List ℕ → ℕ → ℕ → ℕ → List ℕ
moved_on last row y soon late = set (set (pushed last y row) 64 soon) 65 late

-- the admitted total after the slot: x admitted before, n arriving; the row's newest total had departed before
unfoldable pub step_admitted : ℕ → Limit → Limit → List ℕ → List ℕ → ℕ → ℕ → ℕ
step_admitted last d q near row x n = admitted_with (forecast_late last d near row) (get_or row 0 0) q x n

-- the departed total after the slot, x being admitted by then
unfoldable pub step_departed : ℕ → List ℕ → List ℕ → ℕ → ℕ
step_departed last near row x = min x (forecast_at last near row 0)

-- the row after the slot, y having departed by then
unfoldable pub step_row : ℕ → Limit → List ℕ → List ℕ → ℕ → List ℕ
step_row last d near row y = moved_on last row y (forecast_at last near row 0) (forecast_late last d near row)

-- what a step leaves: the totals after the slot, and the row
pub record Stepped (last : ℕ) (d q : Limit) (near row : List ℕ) (x n : ℕ) (totals : Totals) (after : List ℕ) : Type 0 where
  pub admits : totals.admitted ≡ step_admitted last d q near row x n
  pub departs : totals.departed ≡ step_departed last near row (step_admitted last d q near row x n)
  pub moves : after ≡ step_row last d near row (step_departed last near row (step_admitted last d q near row x n))
