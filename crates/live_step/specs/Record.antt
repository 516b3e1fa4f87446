-- A slot's record from running totals (document 01, "One slot").
use Rattle.std.specs.Prelude.{ℕ, ◌-◌}
use Rattle.live_step.specs.declared.record.SlotRecord.{SlotRecord}

-- a slot's record from the totals after it and before it: held before, admitted, dropped (arrived less admitted), departed
abbrev pub record_by : ℕ → ℕ → ℕ → ℕ → ℕ → SlotRecord
record_by x y x₀ y₀ n = record { held_before = x₀ - y₀; admitted = x - x₀; dropped = n - (x - x₀); departed = y - y₀ }
