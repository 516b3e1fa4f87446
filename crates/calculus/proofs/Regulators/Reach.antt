-- What the totals through a slot depend on: no later arrivals, and no longer windows of the envelope.
use mathlib.Core.Path.{◌≡◌, refl, ap, ap₂}
use Prim.Native.Nat.{ℕ, ◌+◌, ◌-◌, ◌≤◌}
use native.Mathlib.Omega.{arith}
use Rattle.calculus.specs.Numbers.Limit.{Limit, at_most, smaller}
use Rattle.calculus.specs.Envelopes.Envelope.{windows}
use Rattle.calculus.specs.Regulators.Clipper.{delay_bound, buffer_bound, clipper_window, clipper_envelope, admitted}
use Rattle.calculus.specs.Regulators.Regulator.{departed}
use Rattle.calculus.proofs.Numbers.Limit.{map_limit_cong}
use Rattle.calculus.proofs.Regulators.Clipper.{clipped_cong}
use Rattle.calculus.proofs.Regulators.Convolution.{convolution_cong}

-- Causality: totals through slot t do not depend on later arrivals.
pub admitted_causal : (F : ℕ → ℕ → ℕ) (d q : Limit) (a b : ℕ → ℕ) (t : ℕ) → ((k : ℕ) → k ≤ t → a k ≡ b k) → admitted F d q a t ≡ admitted F d q b t
unfolding admitted
admitted_causal F d q a b t same = clipped_cong _ _ a b t (λ s r p q. refl) same

pub departed_causal : (F : ℕ → ℕ → ℕ) (d q : Limit) (a b : ℕ → ℕ) (t : ℕ) → ((k : ℕ) → k ≤ t → a k ≡ b k) → departed F d q a t ≡ departed F d q b t
unfolding departed
departed_causal F d q a b t same =
    convolution_cong (admitted F d q a) (admitted F d q b) F F t (λ s p. admitted_causal F d q a b s (λ k r. same k (omega arith))) (λ s p. refl)

-- Totals through slot T depend on the envelope's windows up to T alone, or T + d where there is a delay limit.
module _ (f g : ℕ → ℕ) (d q : Limit) (a : ℕ → ℕ) (T : ℕ) (same : (k : ℕ) → k ≤ T → f k ≡ g k)
    (later : (n k : ℕ) → d ≡ at_most n → k ≤ T + n → f k ≡ g k) where
  pub admitted_reach : (t : ℕ) → t ≤ T → admitted (windows f) d q a t ≡ admitted (windows g) d q a t
  unfolding admitted clipper_envelope clipper_window delay_bound buffer_bound windows
  admitted_reach t p =
      clipped_cong _ _ a a t
      (λ s r sr rt.
      ap₂ smaller (map_limit_cong _ _ d (λ n e. later n (r + n - s) e (omega arith))) (map_limit_cong _ _ q (λ n e. ap (λ (k : ℕ). k + n) (same (r - 1 - s) (omega arith)))))
      (λ k r. refl)

  pub departed_reach : (t : ℕ) → t ≤ T → departed (windows f) d q a t ≡ departed (windows g) d q a t
  unfolding departed windows
  departed_reach t p = convolution_cong _ _ (windows f) (windows g) t (λ s r. admitted_reach s (omega arith)) (λ s r. same (t - s) (omega arith))
