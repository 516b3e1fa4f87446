-- A port above regulators: the departures of any regulators are in time where theorem 7.4's condition holds for their envelopes.
use mathlib.Core.Path.{◌≡◌, ◌∙◌}
use Prim.Native.Nat.{ℕ, suc, ◌+◌, ◌-◌, ◌*◌, ◌≤◌, ◌<◌}
use native.Mathlib.Omega.{arith}
use mathlib.Core.List.{List}
use lib.ListN.{length, get_or}
use Rattle.calculus.specs.Numbers.Limit.{Limit}
use Rattle.calculus.specs.Envelopes.Closure.{Table}
use Rattle.calculus.specs.Envelopes.Envelope.{windows, ClosedEnvelope}
use Rattle.calculus.specs.Regulators.Clipper.{arrived}
use Rattle.calculus.specs.Regulators.Regulator.{departed}
use Rattle.calculus.specs.Regulators.Trace.{arrivals}
use Rattle.calculus.specs.Regulators.Rows.{envelope_of, departed_by, departed_row}
use Rattle.port_calculus.specs.Port.{stream_arrivals, late, late_row}
use Rattle.port_calculus.specs.PortEnvelopes.{KeepsEnvelope, Admissible}
use Rattle.calculus.proofs.Envelopes.Envelope.{closure_envelope}
use Rattle.calculus.proofs.Numbers.Lists.{list_of_at}
use Rattle.calculus.proofs.Regulators.Trace.{slot_counts_at}
use Rattle.calculus.proofs.Regulators.Regulator.{departed-zero, departed_rises, departed-keeps}
use Rattle.port_calculus.proofs.PortEnvelopes.{arrived_total_lem, envelopes_in_time}

-- A regulator's departures keep its envelope.
pub regulator-keeps : (f : ℕ → ℕ) → ClosedEnvelope (windows f) → (d q : Limit) (a b : ℕ → ℕ) (T : ℕ)
    → ((t : ℕ) → t < T → b (suc t) ≡ departed (windows f) d q a (suc t) - departed (windows f) d q a t) → KeepsEnvelope f b T
unfolding KeepsEnvelope windows
regulator-keeps f closed d q a b T counts s t p r =
    omega (arith, total s (omega arith), total t r, departed-keeps (windows f) closed d q a s t p)
  where
    total : (t : ℕ) → t ≤ T → arrived b t ≡ departed (windows f) d q a t
    total = arrived_total_lem (departed (windows f) d q a) b T (departed-zero (windows f) closed d q a) (departed_rises (windows f) closed d q a) counts

-- The port's stream i is fed by the departures of a regulator with the closed envelope f(i), the limits d(i) and q(i) and the trace x(i).
module _ (n : ℕ) (D : ℕ → ℕ) (f : ℕ → ℕ → ℕ) (c T : ℕ) (closed : (i : ℕ) → i < n → ClosedEnvelope (windows (f i))) where
  pub regulators_in_time : Admissible n D f c T → (d q : ℕ → Limit) (x a : ℕ → ℕ → ℕ)
      → ((i t : ℕ) → i < n → t < T → a i (suc t) ≡ departed (windows (f i)) (d i) (q i) (x i) (suc t) - departed (windows (f i)) (d i) (q i) (x i) t)
      → (i : ℕ) → i < n → late n D a c T i ≡ 0
  regulators_in_time admissible d q x a counts =
      envelopes_in_time n D f a c T admissible (λ i p. regulator-keeps (f i) (closed i p) (d i) (q i) (x i) (a i) T (λ t r. counts i t p r))

-- The port's input is the regulators' rows of departures, stream after stream: no late count is above 0.
pub regulator_rows_in_time : (deadlines input : List ℕ) (c T : ℕ) (tables : ℕ → List ℕ)
    → ((i : ℕ) → i < length deadlines → Table (length (tables i) - 1) (λ k. get_or (tables i) k 0))
    → Admissible (length deadlines) (λ i. get_or deadlines i 0) (λ i. envelope_of (tables i)) c T
    → (d q : ℕ → Limit) (traces : ℕ → List ℕ) → ((i : ℕ) → i < length deadlines → length (traces i) ≡ T)
    → ((i t : ℕ) → i < length deadlines → t < T → get_or input (i * T + t) 0 ≡ get_or (departed_row (tables i) (d i) (q i) (traces i)) t 0)
    → (i : ℕ) → i < length deadlines → get_or (late_row deadlines T c input) i 0 ≡ 0
unfolding late_row stream_arrivals envelope_of departed_by
regulator_rows_in_time deadlines input c T tables given admissible d q traces long rows i p =
    list_of_at (late (length deadlines) (λ i. get_or deadlines i 0) (stream_arrivals T input) c T) (length deadlines) i p
    ∙ regulators_in_time (length deadlines) (λ i. get_or deadlines i 0) (λ i. envelope_of (tables i)) c T
    (λ i r. closure_envelope (length (tables i) - 1) (λ k. get_or (tables i) k 0) (given i r))
    admissible d q (λ i. arrivals (traces i)) (stream_arrivals T input)
    (λ i t r w. rows i t r w ∙ counts i t r w) i p
  where
    counts : (i t : ℕ) → i < length deadlines → t < T
        → get_or (departed_row (tables i) (d i) (q i) (traces i)) t 0 ≡ departed_by (tables i) (d i) (q i) (traces i) (suc t) - departed_by (tables i) (d i) (q i) (traces i) t
    counts i t r w = unfold departed_row in slot_counts_at (departed_by (tables i) (d i) (q i) (traces i)) (length (traces i)) t (omega (arith, long i r))
