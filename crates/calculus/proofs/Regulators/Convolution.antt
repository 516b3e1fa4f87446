-- Laws of the convolution of rising totals with a closed envelope: it is the largest output that keeps the envelope.
use mathlib.Core.Path.{◌≡◌, ap, ap₂}
use Prim.Native.Nat.{ℕ, ◌+◌, ◌-◌, ◌≤◌}
use native.Mathlib.Decide.{dec_le}
use native.Mathlib.Omega.{arith}
use Rattle.calculus.specs.Envelopes.Envelope.{windows, ClosedEnvelope}
use Rattle.calculus.specs.Regulators.Regulator.{convolution}
use Rattle.calculus.proofs.Numbers.Least.{least_below, least_above, least_attained, least_cong}

-- Y(t) is at most X(s) + F(s,t) for s up to t.
pub convolution_below : (X : ℕ → ℕ) (F : ℕ → ℕ → ℕ) (s t : ℕ) → s ≤ t → convolution X F t ≤ X s + F s t
unfolding convolution
convolution_below X F s t p = least_below 0 t (λ s. X s + F s t) s (omega arith) p

-- What is at most every X(s) + F(s,t) is at most Y(t).
pub convolution_above : (X : ℕ → ℕ) (F : ℕ → ℕ → ℕ) (t z : ℕ) → ((s : ℕ) → s ≤ t → z ≤ X s + F s t) → z ≤ convolution X F t
unfolding convolution
convolution_above X F t z p = least_above 0 t (λ s. X s + F s t) z (omega arith) (λ s s0 st. p s st)

-- Y(t) is some X(s) + F(s,t).
pub convolution_attained : (X : ℕ → ℕ) (F : ℕ → ℕ → ℕ) (t : ℕ) → (s : ℕ) × (s ≤ t) × (convolution X F t ≡ X s + F s t)
unfolding convolution
convolution_attained X F t =
    let (s, p, q, e) = least_attained 0 t (λ s. X s + F s t) (omega arith) in
    (s, q, e)

-- Equal totals through slot t and equal windows up to slot t have the same output at slot t.
pub convolution_cong : (X Z : ℕ → ℕ) (F E : ℕ → ℕ → ℕ) (t : ℕ) → ((s : ℕ) → s ≤ t → X s ≡ Z s) → ((s : ℕ) → s ≤ t → F s t ≡ E s t) → convolution X F t ≡ convolution Z E t
unfolding convolution
convolution_cong X Z F E t same_x same_f = least_cong 0 t _ _ (omega arith) (λ s s0 st. ap₂ ◌+◌ (same_x s st) (same_f s st))

module _ (X : ℕ → ℕ) (F : ℕ → ℕ → ℕ) (closed : ClosedEnvelope F) where
  -- No more departs than was admitted.
  pub convolution_under : (t : ℕ) → convolution X F t ≤ X t
  convolution_under t = omega (arith, convolution_below X F t t (omega arith), closed.starts t)

  -- The output keeps the envelope over every window.
  pub convolution-keeps : (s t : ℕ) → s ≤ t → convolution X F t ≤ convolution X F s + F s t
  convolution-keeps s t p =
      let (r, rs, e) = convolution_attained X F s in
      omega (arith, convolution_below X F r t (omega arith), closed.chains r s t rs p)

  -- The output does not fall.
  pub convolution_rises : ((i j : ℕ) → i ≤ j → X i ≤ X j) → (i j : ℕ) → i ≤ j → convolution X F i ≤ convolution X F j
  convolution_rises rises i j p =
      convolution_above X F j (convolution X F i)
      (λ s sj.
      elim (dec_le s i) [
        | yes q ↦ omega (arith, convolution_below X F s i q, closed.rises s i j p)
        | no q ↦ omega (arith, convolution_under i, rises i s (omega arith))
      ])

  -- No output that is below the input and keeps the envelope is above this one.
  pub convolution_largest : (T : ℕ) (v : ℕ → ℕ) → ((t : ℕ) → t ≤ T → v t ≤ X t) → ((s t : ℕ) → s ≤ t → t ≤ T → v t ≤ v s + F s t)
      → (t : ℕ) → t ≤ T → v t ≤ convolution X F t
  convolution_largest T v under keeps t p =
      convolution_above X F t (v t) (λ s st. omega (arith, under s (omega arith), keeps s t st p))

-- What keeps some windows when it enters a regulator keeps them when it leaves.
pub convolution_passes : (W f g : ℕ → ℕ) → ((s t : ℕ) → s ≤ t → W t ≤ W s + g (t - s))
    → (s t : ℕ) → s ≤ t → convolution W (windows f) t ≤ convolution W (windows f) s + g (t - s)
unfolding windows
convolution_passes W f g keeps s t st =
    let (r, rs, e) = convolution_attained W (windows f) s in
    let later : ℕ = r + (t - s) in
    let rest : t - later ≡ s - r = omega arith in
    let moved : later - r ≡ t - s = omega arith in
    omega (arith, convolution_below W (windows f) later t (omega arith), ap f rest, keeps r later (omega arith), ap g moved)
