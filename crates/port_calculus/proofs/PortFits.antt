-- Theorem 7.1 of document 000 for the port: all deadlines that fall in the run are met exactly where, for every s up to u, what comes
-- after slot s and is due by slot u is at most c packets a slot.
use mathlib.Core.Path.{◌≡◌, ap, ◌∙◌}
use Prim.Native.Nat.{ℕ, zero, suc, ◌+◌, ◌-◌, ◌*◌, ◌≤◌, ◌<◌, min}
use native.Mathlib.Nat.{mul-suc}
use native.Mathlib.Decide.{dec_le}
use native.Mathlib.Omega.{arith}
use Rattle.calculus.specs.Regulators.Clipper.{arrived}
use Rattle.port_calculus.specs.Port.{sum_below, due_before, waiting, late}
use Rattle.port_calculus.specs.Schedules.{Schedule, Meets, sent_by}
use Rattle.port_calculus.specs.PortEnvelopes.{Fits}
use Rattle.calculus.proofs.Regulators.Clipper.{arrived_rises}
use Rattle.port_calculus.proofs.Sums.{sum_below_add, sum_below_cong, sum_below_mono, sum_below_none}
use Rattle.port_calculus.proofs.Waiting.{ahead_before, late_due}
use Rattle.port_calculus.proofs.Serving.{before, new, waiting_due, waiting-first, due_before_none}
use Rattle.port_calculus.proofs.PortSchedule.{port_schedule, port_meets_all}

-- c packets for each of some slots
slots_none : (c t : ℕ) → c * (t - t) ≡ 0
slots_none c t = let e : t - t ≡ 0 = omega arith in rw e (omega arith)

slots_more : (c s t : ℕ) → s ≤ t → c * (suc t - s) ≡ c * (t - s) + c
slots_more c s t p = let e : suc t - s ≡ suc (t - s) = omega arith in rw e (omega (arith, mul-suc c (t - s)))

module _ (n : ℕ) (D : ℕ → ℕ) (a : ℕ → ℕ → ℕ) (c : ℕ) where
  -- packets of all streams that came by slot t and are due before slot v
  abbrev all_before : ℕ → ℕ → ℕ
  all_before t v = sum_below (before D a t v) n

  all_before_next : (t v : ℕ) → all_before (suc t) v ≡ all_before t v + sum_below (new D a t v) n
  all_before_next t v =
      omega (
        arith,
        sum_below_add (before D a t v) (new D a t v) n,
        sum_below_cong (before D a (suc t) v) (λ i. before D a t v i + new D a t v i) n
            (λ i p. omega (arith, arrived_rises (a i) (min t (v - suc (D i))) (min (suc t) (v - suc (D i))) (omega arith))),
      )

  -- What waits after slot t and is due before slot v is at most z, if all that came after any slot s is at most z above c a slot.
  backlog : (v t z : ℕ) → ((s : ℕ) → s ≤ t → all_before t v ≤ z + all_before s v + c * (t - s)) → due_before n (waiting n D a c t) v ≤ z
  backlog v zero z fits =
      omega (arith, due_before_none n c (waiting n D a c 0) v (λ u i p q. waiting-first n D a c u i))
  backlog v (suc t) z fits =
      omega (
        arith,
        waiting_due n D a c t v,
        all_before_next t v,
        fits t (omega arith),
        slots_more c t t (omega arith),
        slots_none c t,
        backlog v t (z + c - sum_below (new D a t v) n) (λ s p. omega (arith, fits s (omega arith), all_before_next t v, slots_more c s t p, fits t (omega arith), slots_more c t t (omega arith), slots_none c t)),
      )

  -- What came by slot u and is due by it came by slot s, or after it.
  due_stream : (s u i : ℕ) → before D a u (suc u) i ≤ before D a s (suc u) i + (arrived (a i) (u - D i) - arrived (a i) s)
  due_stream s u i =
      let e : min u (suc u - suc (D i)) ≡ u - D i = omega arith in
      elim (dec_le s (u - D i)) [
        | yes p ↦ let then : min s (suc u - suc (D i)) ≡ s = omega arith in omega (arith, ap (arrived (a i)) e, ap (arrived (a i)) then)
        | no p ↦ let then : min s (suc u - suc (D i)) ≡ u - D i = omega arith in omega (arith, ap (arrived (a i)) e, ap (arrived (a i)) then)
      ]

  due_all : (s u : ℕ) → all_before u (suc u) ≤ all_before s (suc u) + sum_below (λ i. arrived (a i) (u - D i) - arrived (a i) s) n
  due_all s u =
      omega (
        arith,
        sum_below_mono (before D a u (suc u)) (λ i. before D a s (suc u) i + (arrived (a i) (u - D i) - arrived (a i) s)) n (λ i p. due_stream s u i),
        sum_below_add (before D a s (suc u)) (λ i. arrived (a i) (u - D i) - arrived (a i) s) n,
      )

  module _ (T : ℕ) where
    -- What is due by slot u of the run is gone after it.
    fits-gone : Fits n D a c T → (u : ℕ) → u ≤ T → due_before n (waiting n D a c u) (suc u) ≡ 0
    unfolding Fits
    fits-gone fits u p = omega (arith, backlog (suc u) u 0 (λ s q. omega (arith, fits s u q p, due_all s u)))

    -- Sufficient: no packet is late.
    pub fits_meets : Fits n D a c T → (i : ℕ) → i < n → late n D a c T i ≡ 0
    fits_meets fits i p =
        late_due n D a c T i
        ∙ sum_below_none (λ t. waiting n D a c (suc t) (suc t) i) T
        (λ t q. omega (arith, fits-gone fits (suc t) q, ahead_before n c (waiting n D a c (suc t)) (suc t) (suc (suc t)) i (omega arith) p))

    -- Necessary: a schedule that meets all deadlines has them fit.
    module _ (S : ℕ → ℕ → ℕ) (schedule : Schedule n D a c T S) where
      sends_most : (s u : ℕ) → s ≤ u → u ≤ T → sum_below (λ i. S i u - S i s) n ≤ c * (u - s)
      sends_most s zero p q = omega (arith, sum_below_none (λ i. S i 0 - S i s) n (λ i r. let e : s ≡ 0 = omega arith in rw e (omega arith)))
      sends_most s (suc u) p q =
          elim (dec_le s u) [
            | yes r ↦ omega (
              arith,
              sends_most s u r (omega arith),
              schedule.capacity u q,
              slots_more c s u r,
              sum_below_add (λ i. S i u - S i s) (λ i. S i (suc u) - S i u) n,
              sum_below_mono (λ i. S i (suc u) - S i s) (λ i. S i u - S i s + (S i (suc u) - S i u)) n (λ i w. omega arith),
            )
            | no r ↦ let e : s ≡ suc u = omega arith in omega (arith, sum_below_none (λ i. S i (suc u) - S i s) n (λ i w. rw e (omega arith)))
          ]

      pub meets_fits : Meets n D a c T S → Fits n D a c T
      unfolding Meets Fits
      meets_fits meets s u p q =
          omega (
            arith,
            sends_most s u p q,
            sum_below_mono (λ i. arrived (a i) (u - D i) - arrived (a i) s) (λ i. S i u - S i s) n
                (λ i r. omega (arith, meets i u r q, schedule.comes_first i s r (omega arith))),
          )

    -- So where the port has no late packet, they fit.
    pub late_fits : ((i : ℕ) → i < n → D i ≤ 64) → ((i : ℕ) → i < n → late n D a c T i ≡ 0) → Fits n D a c T
    late_fits timely none = meets_fits (sent_by n D a c T) (port_schedule n D a c T) (port_meets_all n D a c T timely none)
