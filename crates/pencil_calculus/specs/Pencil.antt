-- The pencil version (document 02, request 2.14): "admitted totals are worked from earlier departures, and departures from admitted totals".
use Rattle.std.specs.Prelude.{◌≡◌, List, ℕ, zero, suc, ◌-◌, ◌≤◌, ◌<◌, length}
use Rattle.calculus.specs.Numbers.Course.{Rule, course}
use Rattle.calculus.specs.Numbers.Limit.{Limit}
use Rattle.calculus.specs.Envelopes.Envelope.{windows}
use Rattle.calculus.specs.Regulators.Clipper.{arrived}
use Rattle.calculus.specs.Regulators.Regulator.{convolution}
use Rattle.calculus.specs.Regulators.BoundedPast.{next_admitted}
use Rattle.calculus.specs.Regulators.Trace.{arrivals, slot_counts}
use Rattle.calculus.specs.Regulators.Rows.{envelope_of}

-- Two totals for the slots 0 to T, each worked from the other.
pub record Pencil (f : ℕ → ℕ) (d q : Limit) (a : ℕ → ℕ) (T : ℕ) (X Y : ℕ → ℕ) : Type 0 where
  pub admits_none : X 0 ≡ 0
  -- Admitted totals are worked from earlier departures, all of them back to slot 0 ..
  pub admits : (t : ℕ) → t < T → X (suc t) ≡ next_admitted (suc t) f d q (λ k. Y (suc t - k)) (X t) (a (suc t))
  -- .. and departures from admitted totals.
  pub departs : (t : ℕ) → t ≤ T → Y t ≡ convolution X (windows f) t

-- The same as numbers: X(0) is 0, and X(t+1) is worked from X(t), the slot's arrivals and the departures of all slots through t, ..
unfoldable pub pencilling : (ℕ → ℕ) → Limit → Limit → (ℕ → ℕ) → Rule
pencilling f d q a X zero = 0
pencilling f d q a X (suc t) = next_admitted (suc t) f d q (λ k. convolution X (windows f) (suc t - k)) (X t) (a (suc t))

unfoldable pub pencil_admitted : (ℕ → ℕ) → Limit → Limit → (ℕ → ℕ) → ℕ → ℕ
pencil_admitted f d q a = course (pencilling f d q a)

-- .. and Y(t) from the admitted totals.
unfoldable pub pencil_departed : (ℕ → ℕ) → Limit → Limit → (ℕ → ℕ) → ℕ → ℕ
pencil_departed f d q a = convolution (pencil_admitted f d q a) (windows f)

-- the packets admitted, dropped and departed in each slot of a trace
unfoldable pub pencil_admitted_row : List ℕ → Limit → Limit → List ℕ → List ℕ
pencil_admitted_row table d q trace = slot_counts (pencil_admitted (envelope_of table) d q (arrivals trace)) (length trace)

unfoldable pub pencil_dropped_row : List ℕ → Limit → Limit → List ℕ → List ℕ
pencil_dropped_row table d q trace = slot_counts (λ t. arrived (arrivals trace) t - pencil_admitted (envelope_of table) d q (arrivals trace) t) (length trace)

unfoldable pub pencil_departed_row : List ℕ → Limit → Limit → List ℕ → List ℕ
pencil_departed_row table d q trace = slot_counts (pencil_departed (envelope_of table) d q (arrivals trace)) (length trace)
