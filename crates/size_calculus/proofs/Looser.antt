-- What is admitted never falls, and what is lost never grows, where the buffer limit, the delay limit or the envelope grows.
use mathlib.Core.Path.{◌≡◌, refl}
use Prim.Native.Nat.{ℕ, ◌+◌, ◌-◌, ◌≤◌, ◌<◌}
use native.Mathlib.Omega.{arith}
use Rattle.calculus.proofs.Numbers.Distinct.{zero_one}
use Rattle.calculus.specs.Numbers.Limit.{Limit, at_most}
use Rattle.calculus.specs.Envelopes.Closure.{closure, Table}
use Rattle.calculus.specs.Envelopes.Envelope.{windows, ClosedEnvelope}
use Rattle.calculus.specs.Regulators.Clipper.{clipped, clipper_envelope, admitted}
use Rattle.calculus.specs.Regulators.Regulator.{lost}
use Rattle.calculus.proofs.Numbers.Limit.{Within}
use Rattle.calculus.proofs.Envelopes.Closure.{closure_under, closure_below}
use Rattle.calculus.proofs.Regulators.Clipper.{clipped-zero, clipped-arrivals, clipped_largest, bound-delay, bound-buffer, bound-kept}
use Rattle.calculus.proofs.Regulators.ClipperBounds.{clipped_within}
use Rattle.size_calculus.specs.Looser.{NoTighter, to_none, to_number}

-- A clipper whose bounds are nowhere below another's has let in no less by any slot.
pub clipped_more : (G H : ℕ → ℕ → Limit) (a : ℕ → ℕ) → ((s t x : ℕ) → s < t → Within x (G s t) → Within x (H s t)) → (t : ℕ) → clipped G a t ≤ clipped H a t
clipped_more G H a wider t =
    clipped_largest H a t (clipped G a) (clipped-zero G a) (λ s p. clipped-arrivals G a s)
    (λ s r n sr rt e.
    omega (arith, wider s r (clipped G a r - clipped G a s) sr (λ m f. omega (arith, clipped_within G a s r sr m f)) n e)) t (omega arith)

-- A number of the limit that is no tighter comes with one of the other, no larger.
pub tighter-number : (l m : Limit) → NoTighter l m → (k : ℕ) → m ≡ at_most k → (n : ℕ) × (l ≡ at_most n) × (n ≤ k)
tighter-number l m (to_none j) k e = absurd (zero_one cc)
tighter-number l m (to_number n j p) k e = let same : j ≡ k = cc in (n, refl, omega arith)

module _ (a : ℕ → ℕ) (t : ℕ) where
  -- What is admitted does not fall where the buffer limit grows, for any envelope ..
  pub admitted_more-buffer : (F : ℕ → ℕ → ℕ) (d q r : Limit) → NoTighter q r → admitted F d q a t ≤ admitted F d r a t
  unfolding admitted
  admitted_more-buffer F d q r more =
      clipped_more (clipper_envelope F d q) (clipper_envelope F d r) a
      (λ s t x st w.
      bound-kept F d r s t x (bound-delay F d q s t x w)
      (λ m e.
      let (n, from, nm) = tighter-number q r more m e in
      omega (arith, bound-buffer F d q s t x w n from))) t

  -- .. nor where the delay limit grows, for an envelope that does not fall ..
  pub admitted_more-delay : (F : ℕ → ℕ → ℕ) → ClosedEnvelope F → (d e q : Limit) → NoTighter d e → admitted F d q a t ≤ admitted F e q a t
  unfolding admitted
  admitted_more-delay F closed d e q more =
      clipped_more (clipper_envelope F d q) (clipper_envelope F e q) a
      (λ s t x st w.
      bound-kept F e q s t x
      (λ m f.
      let (n, from, nm) = tighter-number d e more m f in
      omega (arith, bound-delay F d q s t x w n from, closed.rises s (t + n) (t + m) (omega arith)))
      (bound-buffer F d q s t x w)) t

  -- .. nor where the envelope grows.
  pub admitted_more_envelope : (F E : ℕ → ℕ → ℕ) (d q : Limit) → ((s t : ℕ) → F s t ≤ E s t) → admitted F d q a t ≤ admitted E d q a t
  unfolding admitted
  admitted_more_envelope F E d q more =
      clipped_more (clipper_envelope F d q) (clipper_envelope E d q) a
      (λ s t x st w.
      bound-kept E d q s t x
      (λ n e. omega (arith, bound-delay F d q s t x w n e, more s (t + n)))
      (λ n e. omega (arith, bound-buffer F d q s t x w n e, more s (t - 1)))) t

  -- So what is lost does not grow.
  pub lost_less-buffer : (F : ℕ → ℕ → ℕ) (d q r : Limit) → NoTighter q r → lost F d r a t ≤ lost F d q a t
  unfolding lost
  lost_less-buffer F d q r more = omega (arith, admitted_more-buffer F d q r more)

  pub lost_less-delay : (F : ℕ → ℕ → ℕ) → ClosedEnvelope F → (d e q : Limit) → NoTighter d e → lost F e q a t ≤ lost F d q a t
  unfolding lost
  lost_less-delay F closed d e q more = omega (arith, admitted_more-delay F closed d e q more)

  pub lost_less_envelope : (F E : ℕ → ℕ → ℕ) (d q : Limit) → ((s t : ℕ) → F s t ≤ E s t) → lost E d q a t ≤ lost F d q a t
  unfolding lost
  lost_less_envelope F E d q more = omega (arith, admitted_more_envelope F E d q more)

  -- Nor does it for a table, of as many windows or not, that is nowhere below the envelope of another ..
  pub lost_less-closure : (L : ℕ) (table : ℕ → ℕ) → Table L table → (M : ℕ) (other : ℕ → ℕ) → Table M other → ((k : ℕ) → k ≤ M → closure L table k ≤ other k)
      → (d q : Limit) → lost (windows (closure M other)) d q a t ≤ lost (windows (closure L table)) d q a t
  unfolding windows
  lost_less-closure L table given M other fine more d q =
      lost_less_envelope (windows (closure L table)) (windows (closure M other)) d q (λ s t. closure_below L table given M other fine more (t - s))

  -- .. so for one of as many windows that is nowhere below the other.
  pub lost_less-table : (L : ℕ) (table other : ℕ → ℕ) → Table L table → Table L other → ((k : ℕ) → k ≤ L → table k ≤ other k) → (d q : Limit)
      → lost (windows (closure L other)) d q a t ≤ lost (windows (closure L table)) d q a t
  lost_less-table L table other given fine more =
      lost_less-closure L table given L other fine (λ k p. omega (arith, closure_under L table given k p, more k p))
