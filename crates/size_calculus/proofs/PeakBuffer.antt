-- The bench's peak under the delay limit alone is the buffer with which no slot loses more, and no smaller one is.
use mathlib.Core.Path.{◌≡◌, refl, ap}
use mathlib.Core.List.{List}
use Prim.Native.Nat.{ℕ, zero, suc, ◌+◌, ◌-◌, ◌≤◌, ◌<◌}
use native.Mathlib.Nat.{le_antisymm}
use native.Mathlib.Decide.{dec_le}
use native.Mathlib.Omega.{arith}
use lib.ListN.{length}
use Rattle.calculus.specs.Numbers.Limit.{Limit, none, at_most}
use Rattle.calculus.specs.Envelopes.Envelope.{windows, ClosedEnvelope}
use Rattle.calculus.specs.Regulators.Clipper.{arrived, clipper_envelope, admitted}
use Rattle.calculus.specs.Regulators.Regulator.{convolution, departed, lost}
use Rattle.calculus.specs.Regulators.Fill.{bench_fill_at, greatest}
use Rattle.calculus.specs.Regulators.Trace.{arrivals}
use Rattle.calculus.specs.Regulators.Rows.{envelope_of, lost_by}
use Rattle.calculus.proofs.Numbers.Limit.{Within}
use Rattle.calculus.proofs.Regulators.Clipper.{clipped-zero, clipped-arrivals, clipped_largest, bound-delay, bound-kept}
use Rattle.calculus.proofs.Regulators.ClipperBounds.{clipped_within}
use Rattle.calculus.proofs.Regulators.Convolution.{convolution_below, convolution_above}
use Rattle.calculus.proofs.Regulators.Regulator.{admitted-arrived, buffer-kept}
use Rattle.calculus.proofs.Regulators.Fill.{greatest_above, greatest_attained}
use Rattle.calculus.specs.Losses.Permitted.{Quiet}
use Rattle.calculus.specs.Losses.AlsoPermitted.{PermittedOn}
use Rattle.calculus.proofs.Losses.LowestLoss.{loss-least}
use Rattle.size_calculus.specs.Looser.{to_none}
use Rattle.size_calculus.specs.PeakBuffer.{peak_alone, PeakBuffer}
use Rattle.size_calculus.proofs.Looser.{admitted_more-buffer}

module _ (F : ℕ → ℕ → ℕ) (closed : ClosedEnvelope F) (d : Limit) (a : ℕ → ℕ) (T : ℕ) where
  -- X under the delay limit alone, and the bench's fill of it
  abbrev free : ℕ → ℕ
  free = admitted F d none a

  abbrev fill : ℕ → ℕ
  fill = bench_fill_at F d none a

  -- A buffer that holds the fill of every slot bounds nothing.
  free-kept : (q : ℕ) → greatest fill T ≤ q → (s t : ℕ) → s < t → t ≤ T → free t ≤ free s + F s (t - 1) + q
  unfolding bench_fill_at departed
  free-kept q enough s t p r =
      omega (arith, greatest_above fill T t (omega arith) r, convolution_below free F s (t - 1) (omega arith))

  free_within : (q : ℕ) → greatest fill T ≤ q → (s t : ℕ) → s < t → t ≤ T → Within (free t - free s) (clipper_envelope F d (at_most q) s t)
  unfolding admitted
  free_within q enough s t p r =
      bound-kept F d (at_most q) s t (free t - free s)
      (bound-delay F d none s t (free t - free s) (λ m e. omega (arith, clipped_within (clipper_envelope F d none) a s t p m e)))
      (λ m e. let same : q ≡ m = cc in omega (arith, free-kept q enough s t p r))

  free-admitted : (q : ℕ) → greatest fill T ≤ q → (t : ℕ) → t ≤ T → free t ≤ admitted F d (at_most q) a t
  unfolding admitted
  free-admitted q enough t r =
      clipped_largest (clipper_envelope F d (at_most q)) a T free (clipped-zero (clipper_envelope F d none) a)
      (λ s p. clipped-arrivals (clipper_envelope F d none) a s)
      (λ s t n p r e. omega (arith, free_within q enough s t p r n e)) t r

  -- So as much is admitted by every slot.
  pub peak_enough : (q : ℕ) → greatest fill T ≤ q → (t : ℕ) → t ≤ T → admitted F d (at_most q) a t ≡ free t
  peak_enough q enough t r = le_antisymm (admitted_more-buffer a t F d (at_most q) none (to_none (at_most q))) (free-admitted q enough t r)

  -- No more departs with a buffer limit than without.
  departed_less : (q t : ℕ) → departed F d (at_most q) a t ≤ departed F d none a t
  unfolding departed
  departed_less q t =
      convolution_above free F t (convolution (admitted F d (at_most q) a) F t)
      (λ s p. omega (arith, convolution_below (admitted F d (at_most q) a) F s t p, admitted_more-buffer a s F d (at_most q) none (to_none (at_most q))))

  -- With a smaller buffer less is admitted by the slot of the peak.
  pub peak_needed : (q t : ℕ) → 1 ≤ t → q < fill t → admitted F d (at_most q) a t < free t
  unfolding bench_fill_at
  peak_needed q zero p less = absurd (omega arith)
  peak_needed q (suc t) p less =
      let before : suc t - 1 ≡ t = omega arith in
      omega (arith, less, buffer-kept F closed d (at_most q) a q refl t, departed_less q t, ap (departed F d none a) before)

-- What is below the greatest of some slots is below that of one of them.
greatest-slot : (h : ℕ → ℕ) (T q : ℕ) → q < greatest h T → (t : ℕ) × (1 ≤ t) × (t ≤ T) × (q < h t)
unfolding greatest
greatest-slot h zero q less = absurd (omega arith)
greatest-slot h (suc T) q less = let (t, p, r, e) = greatest_attained h T in (t, p, r, omega (arith, e))

-- The peak as the order form reads it, for an accepted table and a trace.
module _ (table : List ℕ) (closed : ClosedEnvelope (windows (envelope_of table))) (d : Limit) (trace : List ℕ) where
  abbrev E : ℕ → ℕ → ℕ
  E = windows (envelope_of table)

  abbrev A : ℕ → ℕ
  A = arrivals trace

  lost_more : (q t : ℕ) → admitted E d (at_most q) A t < admitted E d none A t → lost E d none A t < lost E d (at_most q) A t
  unfolding lost
  lost_more q t less = omega (arith, admitted-arrived E closed d none A t)

  pub peak-buffer : PeakBuffer table d trace (peak_alone table d trace)
  unfolding peak_alone lost_by PermittedOn
  peak-buffer =
      record {
        enough = λ q p t r. unfold lost in ap (λ (x : ℕ). arrived A t - x) (peak_enough E closed d A (length trace) q p t r);
        needed = λ q p.
            let (t, t1, t_t, less) = greatest-slot (bench_fill_at E d none A) (length trace) q p in
            (t, t_t, lost_more q t (peak_needed E closed d A (length trace) q t t1 less));
        nobody_smaller = λ quiet q p.
            let (t, t1, t_t, less) = greatest-slot (bench_fill_at E d none A) (length trace) q p in (
              t,
              t_t,
              λ u v permitted.
                  omega (
                    arith,
                    lost_more q t (peak_needed E closed d A (length trace) q t t1 less),
                    loss-least E closed d (at_most q) A (length trace) u v permitted quiet t t_t,
                  ),
            );
      }

-- No other number is so.
pub peak_only : (table : List ℕ) (d : Limit) (trace : List ℕ) (p r : ℕ) → PeakBuffer table d trace p → PeakBuffer table d trace r → p ≡ r
peak_only table d trace p r one other = le_antisymm (upto p r one other) (upto r p other one)
  where
    upto : (p r : ℕ) → PeakBuffer table d trace p → PeakBuffer table d trace r → p ≤ r
    upto p r one other =
        elim (dec_le p r) [
          | yes q ↦ q
          | no q ↦ let (t, t_t, less) = one.needed r (omega arith) in absurd (omega (arith, other.enough r (omega arith) t t_t))
        ]

-- Under demand 3's premise whoever has lost no more by any slot than ours under the delay limit alone has at least this buffer.
pub peak_any : (table : List ℕ) (d : Limit) (trace : List ℕ) (peak q : ℕ) → PeakBuffer table d trace peak → Quiet d (arrivals trace) (length trace)
    → (u v : ℕ → ℕ) → PermittedOn table d (at_most q) trace u v
    → ((t : ℕ) → t ≤ length trace → arrived (arrivals trace) t - u t ≤ lost_by table d none trace t) → peak ≤ q
peak_any table d trace peak q this quiet u v permitted few =
    elim (dec_le peak q) [
      | yes p ↦ p
      | no p ↦ let (t, t_t, more) = this.nobody_smaller quiet q (omega arith) in absurd (omega (arith, more u v permitted, few t t_t))
    ]
