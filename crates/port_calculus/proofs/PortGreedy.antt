-- Theorem 7.4's condition is needed: streams that fill their envelopes from slot 1 on are in time only where it holds.
use mathlib.Core.Path.{◌≡◌, ap}
use Prim.Native.Nat.{ℕ, suc, ◌-◌, ◌*◌, ◌≤◌, ◌<◌}
use native.Mathlib.Nat.{sub-zero}
use native.Mathlib.Decide.{dec_le}
use native.Mathlib.Omega.{arith}
use Rattle.calculus.specs.Envelopes.Envelope.{windows, ClosedEnvelope}
use Rattle.calculus.specs.Regulators.Clipper.{arrived}
use Rattle.port_calculus.specs.Port.{late}
use Rattle.port_calculus.specs.PortEnvelopes.{Fits, KeepsEnvelope, due_within, Admissible}
use Rattle.port_calculus.proofs.Sums.{sum_below_mono}
use Rattle.port_calculus.proofs.PortFits.{late_fits}
use Rattle.port_calculus.proofs.PortEnvelopes.{arrived_total_lem, due_within_long, due_within_short}

module _ (n : ℕ) (D : ℕ → ℕ) (f : ℕ → ℕ → ℕ) (c T : ℕ) (closed : (i : ℕ) → i < n → ClosedEnvelope (windows (f i))) where
  -- what a stream brings in slot t that fills its envelope from slot 1 on
  abbrev greedy : ℕ → ℕ → ℕ
  greedy i t = f i t - f i (t - 1)

  envelope_starts : (i : ℕ) → i < n → f i 0 ≡ 0
  unfolding windows
  envelope_starts i p = (closed i p).starts 0

  envelope_rises : (i : ℕ) → i < n → (s t : ℕ) → s ≤ t → f i s ≤ f i t
  unfolding windows
  envelope_rises i p s t r = omega (arith, ap (f i) (sub-zero s), ap (f i) (sub-zero t), (closed i p).rises 0 s t r)

  greedy_total : (i : ℕ) → i < n → (t : ℕ) → arrived (greedy i) t ≡ f i t
  greedy_total i p t =
      arrived_total_lem (f i) (greedy i) t (envelope_starts i p) (envelope_rises i p)
      (λ k r. let e : suc k - 1 ≡ k = omega arith in ap (λ (m : ℕ). f i (suc k) - f i m) e) t (omega arith)

  greedy-keeps : (i : ℕ) → i < n → KeepsEnvelope (f i) (greedy i) T
  unfolding KeepsEnvelope windows
  greedy-keeps i p s t r q =
      omega (arith, greedy_total i p s, greedy_total i p t, ap (f i) (sub-zero s), ap (f i) (sub-zero t), (closed i p).chains 0 s t (omega arith) r)

  greedy_due : (i k : ℕ) → i < n → due_within (f i) (D i) k ≤ arrived (greedy i) (k - D i) - arrived (greedy i) 0
  greedy_due i k p =
      elim (dec_le (suc (D i)) k) [
        | yes q ↦ omega (arith, due_within_long (f i) (D i) k q, greedy_total i p (k - D i), greedy_total i p 0, envelope_starts i p)
        | no q ↦ omega (arith, due_within_short (f i) (D i) k (omega arith))
      ]

  -- Where all streams that keep the envelopes are in time, the condition holds.
  pub envelopes_needed : ((i : ℕ) → i < n → D i ≤ 64)
      → ((a : ℕ → ℕ → ℕ) → ((i : ℕ) → i < n → KeepsEnvelope (f i) (a i) T) → (i : ℕ) → i < n → late n D a c T i ≡ 0) → Admissible n D f c T
  unfolding Admissible Fits
  envelopes_needed timely in_time k p q =
      omega (
        arith,
        late_fits n D greedy c T timely (in_time greedy greedy-keeps) 0 k (omega arith) q,
        ap (λ (m : ℕ). c * m) (sub-zero k),
        sum_below_mono (λ i. due_within (f i) (D i) k) (λ i. arrived (greedy i) (k - D i) - arrived (greedy i) 0) n (λ i r. greedy_due i k r),
      )
