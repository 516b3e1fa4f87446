-- The buffer with which no slot has lost more than under the delay limit alone: the bench's peak of the same trace with no buffer limit.
use Rattle.std.specs.Prelude.{◌≡◌, List, ℕ, ◌-◌, ◌≤◌, ◌<◌, length}
use Rattle.calculus.specs.Numbers.Limit.{Limit, none, at_most}
use Rattle.calculus.specs.Envelopes.Envelope.{windows}
use Rattle.calculus.specs.Regulators.Clipper.{arrived}
use Rattle.calculus.specs.Regulators.Fill.{bench_fill_at, greatest}
use Rattle.calculus.specs.Regulators.Trace.{arrivals}
use Rattle.calculus.specs.Regulators.Rows.{envelope_of, lost_by}
use Rattle.calculus.specs.Losses.Permitted.{Quiet}
use Rattle.calculus.specs.Losses.AlsoPermitted.{PermittedOn}

-- the bench's peak of a trace, with a delay limit and no buffer limit
unfoldable pub peak_alone : List ℕ → Limit → List ℕ → ℕ
peak_alone table d trace = greatest (bench_fill_at (windows (envelope_of table)) d none (arrivals trace)) (length trace)

pub record PeakBuffer (table : List ℕ) (d : Limit) (trace : List ℕ) (peak : ℕ) : Type 0 where
  -- With it, or a larger one, as many are lost by every slot as under the delay limit alone.
  pub enough : (q : ℕ) → peak ≤ q → (t : ℕ) → t ≤ length trace → lost_by table d (at_most q) trace t ≡ lost_by table d none trace t
  -- With a smaller one more are lost by some slot ..
  pub needed : (q : ℕ) → q < peak → (t : ℕ) × (t ≤ length trace) × (lost_by table d none trace t < lost_by table d (at_most q) trace t)
  -- .. and under demand 3's premise whoever has it has lost more by that slot.
  pub nobody_smaller : Quiet d (arrivals trace) (length trace) → (q : ℕ) → q < peak
      → (t : ℕ) × (t ≤ length trace) × ((u v : ℕ → ℕ) → PermittedOn table d (at_most q) trace u v → lost_by table d none trace t < arrived (arrivals trace) t - u t)
