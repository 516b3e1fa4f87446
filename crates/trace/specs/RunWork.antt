-- What a run works from slot to slot.
use Rattle.std.specs.Prelude.{◌≡◌, ℕ, ◌+◌, ◌-◌, ◌≤◌, min, List, length, get_or, drop}
use Rattle.calculus.specs.Numbers.Limit.{Limit}
use Rattle.calculus.specs.Regulators.Ahead.{ahead_admitted}
use Rattle.numbers.specs.LeastSum.{least_with}
use Rattle.calculus.specs.Regulators.Rows.{envelope_of}
use Rattle.settings.specs.LookedAhead.{looked_ahead}
use Rattle.refusals.specs.Table.{table_refusal, last_window}
use Rattle.refusals.specs.Limits.{delay_refusal, buffer_refusal}
use Rattle.refusals.specs.WholeTrace.{trace_refusal}
use Rattle.trace.specs.declared.run.Totals.{Totals}

-- the least over the newest departed total and the older ones, each with f of the slots from it to `ahead` slots after the next one
unfoldable pub forecast_from : List ℕ → List ℕ → ℕ → ℕ → ℕ → ℕ
forecast_from windows older last newest ahead = least_with (newest + get_or windows (ahead + 1) 0) older (drop (ahead + 2) windows) (last - 1)

-- the totals after a slot, from its two forecasts: x admitted and y departed before, n arriving
abbrev pub run_admitted : ℕ → ℕ → Limit → Limit → ℕ → ℕ → ℕ
run_admitted late y d q x n = ahead_admitted (λ _. late) y d q x n

abbrev pub run_totals : ℕ → ℕ → ℕ → Limit → Limit → ℕ → ℕ → Totals
run_totals soon late y d q x n = record { admitted = run_admitted late y d q x n; departed = min (run_admitted late y d q x n) soon }

-- what slots are worked from: a table, limits and a trace that get no number one by one, both limits none among them
pub record Workable (table : List ℕ) (d q : ℕ) (trace : List ℕ) (ins drops outs : ℕ) : Type 0 where
  pub tabled : table_refusal table ≡ 0
  pub delayed : delay_refusal d ≡ 0
  pub buffered : buffer_refusal q ≡ 0
  pub traced : trace_refusal trace ins drops outs ≡ 0

-- f as far as a run looks: at the windows up to L, and as many further as the delay limit looks ahead
pub record Windowed (table : List ℕ) (d : ℕ) (windows : List ℕ) : Type 0 where
  pub long : length windows ≡ 129
  pub near : (k : ℕ) → k ≤ last_window table + looked_ahead d → get_or windows k 0 ≡ envelope_of table k
  pub small : (k : ℕ) → get_or windows k 0 ≤ 128000000
