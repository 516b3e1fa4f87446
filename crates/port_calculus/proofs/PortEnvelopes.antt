-- Theorem 7.4 of document 000 for the port and envelopes of windows: streams that keep their envelopes are in time where, for every
-- window of k slots, what the envelopes let come and be due in it is at most c × k.
use mathlib.Core.Path.{◌≡◌, refl, ap}
use Prim.Native.Nat.{ℕ, zero, suc, ◌-◌, ◌≤◌, ◌<◌}
use native.Mathlib.Decide.{dec_le}
use native.Mathlib.Omega.{arith}
use borrow.Author.Tests.{lt-ltb, le-ltb}
use Rattle.calculus.specs.Regulators.Clipper.{arrived}
use Rattle.port_calculus.specs.Port.{late}
use Rattle.port_calculus.specs.PortEnvelopes.{Fits, KeepsEnvelope, due_within, Admissible}
use Rattle.calculus.proofs.Regulators.Clipper.{arrived-zero, arrived-slot, arrived_rises}
use Rattle.port_calculus.proofs.Sums.{sum_below_mono, sum_below_none}
use Rattle.port_calculus.proofs.PortFits.{fits_meets}

-- A stream that brings in each slot what totals count, which start at 0 and do not fall, has brought the totals.
pub arrived_total_lem : (Y b : ℕ → ℕ) (T : ℕ) → Y 0 ≡ 0 → ((i j : ℕ) → i ≤ j → Y i ≤ Y j) → ((t : ℕ) → t < T → b (suc t) ≡ Y (suc t) - Y t)
    → (t : ℕ) → t ≤ T → arrived b t ≡ Y t
arrived_total_lem Y b T starts rises counts zero p = omega (arith, arrived-zero b)
arrived_total_lem Y b T starts rises counts (suc t) p =
    omega (arith, arrived-slot b t, arrived_total_lem Y b T starts rises counts t (omega arith), counts t p, rises t (suc t) (omega arith))

-- A window longer than the deadline has due what comes before its last D slots.
pub due_within_long : (f : ℕ → ℕ) (D k : ℕ) → D < k → due_within f D k ≡ f (k - D)
unfolding due_within
due_within_long f D k p = rw (lt-ltb D k p) refl

pub due_within_short : (f : ℕ → ℕ) (D k : ℕ) → k ≤ D → due_within f D k ≡ 0
unfolding due_within
due_within_short f D k p = rw (le-ltb D k p) refl

-- What a stream brings after slot s that is due by slot u: its envelope bounds it.
due_within_lem : (f a : ℕ → ℕ) (D T : ℕ) → KeepsEnvelope f a T → (s u : ℕ) → u ≤ T → arrived a (u - D) - arrived a s ≤ due_within f D (u - s)
unfolding KeepsEnvelope
due_within_lem f a D T keeps s u p =
    elim (dec_le (suc D) (u - s)) [
      | yes q ↦ let e : u - D - s ≡ u - s - D = omega arith in
          omega (arith, due_within_long f D (u - s) q, ap f e, keeps s (u - D) (omega arith) (omega arith))
      | no q ↦ omega (arith, due_within_short f D (u - s) (omega arith), arrived_rises a (u - D) s (omega arith))
    ]

module _ (n : ℕ) (D : ℕ → ℕ) (f a : ℕ → ℕ → ℕ) (c T : ℕ) (admissible : Admissible n D f c T)
    (keeps : (i : ℕ) → i < n → KeepsEnvelope (f i) (a i) T) where
  pub envelopes_fit : Fits n D a c T
  unfolding Fits Admissible
  envelopes_fit s u p q =
      elim (dec_le u s) [
        | yes r ↦ omega (arith, sum_below_none (λ i. arrived (a i) (u - D i) - arrived (a i) s) n (λ i w. omega (arith, arrived_rises (a i) (u - D i) s (omega arith))))
        | no r ↦ omega (
          arith,
          admissible (u - s) (omega arith) (omega arith),
          sum_below_mono (λ i. arrived (a i) (u - D i) - arrived (a i) s) (λ i. due_within (f i) (D i) (u - s)) n
              (λ i w. due_within_lem (f i) (a i) (D i) T (keeps i w) s u q),
        )
      ]

  -- No packet is late.
  pub envelopes_in_time : (i : ℕ) → i < n → late n D a c T i ≡ 0
  envelopes_in_time = fits_meets n D a c T envelopes_fit
