-- A clipper that keeps several bounds at once loses at least what each alone loses, and at most all that they lose together.
use mathlib.Core.Path.{◌≡◌}
use Prim.Native.Nat.{ℕ, zero, suc, ◌+◌, ◌-◌, ◌≤◌, ◌<◌}
use native.Mathlib.Decide.{dec_le}
use native.Mathlib.Omega.{arith}
use Rattle.calculus.specs.Numbers.Limit.{Limit}
use Rattle.calculus.specs.Regulators.Clipper.{arrived, clipped, clipper_envelope, admitted}
use Rattle.calculus.specs.Regulators.Regulator.{lost}
use Rattle.bucket_calculus.specs.Sum.{sum_through}
use Rattle.calculus.proofs.Numbers.Limit.{Within}
use Rattle.calculus.proofs.Regulators.Clipper.{arrived-zero, clipped-zero, clipped-arrivals, clipped-arrived, clipped-loss_rises, clipped_largest, bound-delay, bound-buffer, bound-kept}
use Rattle.calculus.proofs.Regulators.ClipperBounds.{clipped_within}

-- Where no number falls, the sum grows at least by what each number grows.
sum_grows : (n : ℕ) (h k : ℕ → ℕ) → ((i : ℕ) → i ≤ n → h i ≤ k i) → (i : ℕ) → i ≤ n → sum_through n h + k i ≤ sum_through n k + h i
unfolding sum_through
sum_grows zero h k p i q = let e : i ≡ 0 = omega arith in rw e (omega arith)
sum_grows (suc n) h k p i q =
    elim (dec_le i n) [
      | yes r ↦ omega (arith, sum_grows n h k (λ j s. p j (omega arith)) i r, p (suc n) (omega arith))
      | no r ↦ let e : i ≡ suc n = omega arith in
          rw e (omega (arith, sum_grows n h k (λ j s. p j (omega arith)) 0 (omega arith), p 0 (omega arith)))
    ]

-- what a clipper that keeps the bound G has dropped by slot t
abbrev clipped_loss : (ℕ → ℕ → Limit) → (ℕ → ℕ) → ℕ → ℕ
clipped_loss G a t = arrived a t - clipped G a t

-- G is kept exactly where each of H(0) to H(last) is.
module _ (last : ℕ) (G : ℕ → ℕ → Limit) (H : ℕ → ℕ → ℕ → Limit)
    (splits : (s t x : ℕ) → s < t → Within x (G s t) → (i : ℕ) → i ≤ last → Within x (H i s t))
    (joins : (s t x : ℕ) → s < t → ((i : ℕ) → i ≤ last → Within x (H i s t)) → Within x (G s t)) (a : ℕ → ℕ) where
  -- Each alone loses no more.
  pub family-loss-each : (i t : ℕ) → i ≤ last → clipped_loss (H i) a t ≤ clipped_loss G a t
  family-loss-each i t p =
      omega (
        arith,
        clipped_largest (H i) a t (clipped G a) (clipped-zero G a) (λ r q. clipped-arrivals G a r)
            (λ s r n sr rt e. omega (arith, splits s r (clipped G a r - clipped G a s) sr (λ m f. omega (arith, clipped_within G a s r sr m f)) i p n e))
            t (omega arith),
      )

  -- what would be left of the arrivals if all the losses came on top of each other
  left : ℕ → ℕ
  left t = arrived a t - sum_through last (λ i. clipped_loss (H i) a t)

  left-keeps : (i s t : ℕ) → i ≤ last → s ≤ t → left t - left s ≤ clipped (H i) a t - clipped (H i) a s
  unfolding left
  left-keeps i s t p st =
      omega (
        arith,
        sum_grows last (λ i. clipped_loss (H i) a s) (λ i. clipped_loss (H i) a t) (λ j q. clipped-loss_rises (H j) a s t st) i p,
        clipped-arrived (H i) a s,
        clipped-arrived (H i) a t,
      )

  -- Together they lose no less.
  pub family-loss-sum : (t : ℕ) → clipped_loss G a t ≤ sum_through last (λ i. clipped_loss (H i) a t)
  unfolding left
  family-loss-sum t =
      omega (
        arith,
        clipped_largest G a t left (omega (arith, arrived-zero a))
            (λ r q. omega (arith, left-keeps 0 r (suc r) (omega arith) (omega arith), clipped-arrivals (H 0) a r))
            (λ s r n sr rt e. omega (arith, joins s r (left r - left s) sr (λ i p m f. omega (arith, left-keeps i s r p (omega arith), clipped_within (H i) a s r sr m f)) n e))
            t (omega arith),
      )

-- Envelopes E(0) to E(last), and F their least: what holds of the bounds' family holds of their clippers' losses.
module _ (last : ℕ) (F : ℕ → ℕ → ℕ) (E : ℕ → ℕ → ℕ → ℕ) (under : (s t i : ℕ) → s ≤ t → i ≤ last → F s t ≤ E i s t)
    (above : (s t z : ℕ) → s ≤ t → ((i : ℕ) → i ≤ last → z ≤ E i s t) → z ≤ F s t) (d q : Limit) where
  -- F's clipper envelope is kept exactly where each E(i)'s is.
  envelope_splits : (s t x : ℕ) → s < t → Within x (clipper_envelope F d q s t) → (i : ℕ) → i ≤ last → Within x (clipper_envelope (E i) d q s t)
  envelope_splits s t x p w i il =
      bound-kept (E i) d q s t x (λ n e. omega (arith, under s (t + n) i (omega arith) il, bound-delay F d q s t x w n e))
      (λ n e. omega (arith, under s (t - 1) i (omega arith) il, bound-buffer F d q s t x w n e))

  envelope_joins : (s t x : ℕ) → s < t → ((i : ℕ) → i ≤ last → Within x (clipper_envelope (E i) d q s t)) → Within x (clipper_envelope F d q s t)
  envelope_joins s t x p w =
      bound-kept F d q s t x (λ n e. above s (t + n) x (omega arith) (λ i il. bound-delay (E i) d q s t x (w i il) n e))
      (λ n e. omega (arith, above s (t - 1) (x - n) (omega arith) (λ i il. omega (arith, bound-buffer (E i) d q s t x (w i il) n e))))

  -- Each alone loses no more.
  pub envelopes-loss-each : (a : ℕ → ℕ) (i t : ℕ) → i ≤ last → lost (E i) d q a t ≤ lost F d q a t
  unfolding lost admitted
  envelopes-loss-each a = family-loss-each last (clipper_envelope F d q) (λ i. clipper_envelope (E i) d q) envelope_splits envelope_joins a

  -- Together they lose no less.
  pub envelopes-loss-sum : (a : ℕ → ℕ) (t : ℕ) → lost F d q a t ≤ sum_through last (λ i. lost (E i) d q a t)
  unfolding lost admitted
  envelopes-loss-sum a = family-loss-sum last (clipper_envelope F d q) (λ i. clipper_envelope (E i) d q) envelope_splits envelope_joins a
