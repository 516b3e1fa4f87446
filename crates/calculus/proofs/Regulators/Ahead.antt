-- Theorem 5.1's totals slot by slot, for any closed envelope: X(t+1) and Y(t+1) follow from what may still depart. A device that
-- knows W(t,r), however it came by it, works the right totals.
use mathlib.Core.Path.{◌≡◌}
use Prim.Native.Nat.{ℕ, suc, ◌+◌, ◌-◌, ◌≤◌}
use native.Mathlib.Nat.{le_antisymm}
use native.Mathlib.Decide.{dec_le}
use native.Mathlib.Omega.{arith}
use Rattle.calculus.specs.Numbers.Limit.{Limit, at_most, map_limit, cut}
use Rattle.calculus.specs.Envelopes.Envelope.{ClosedEnvelope}
use Rattle.calculus.specs.Regulators.Clipper.{clipper_envelope, admitted}
use Rattle.calculus.specs.Regulators.Regulator.{convolution, departed}
use Rattle.calculus.specs.Regulators.Ahead.{ahead, ahead_admitted, ahead_departed}
use Rattle.calculus.proofs.Numbers.Least.{least_below, least_above}
use Rattle.calculus.proofs.Numbers.Limit.{cut_under, cut_within, cut_above, within-map, within_mapped}
use Rattle.calculus.proofs.Regulators.Clipper.{clipped_above, bound-kept}
use Rattle.calculus.proofs.Regulators.Convolution.{convolution_below, convolution_above, convolution_under}
use Rattle.calculus.proofs.Regulators.Regulator.{admitted-arrivals, admitted-delay, buffer-kept}

-- W(t,r) is at most X(s) + F(s,r) for s up to t ..
pub ahead_below : (X : ℕ → ℕ) (F : ℕ → ℕ → ℕ) (t r s : ℕ) → s ≤ t → ahead X F t r ≤ X s + F s r
unfolding ahead
ahead_below X F t r s p = least_below 0 t (λ s. X s + F s r) s (omega arith) p

-- .. and at least whatever is at most all of them.
pub ahead_above : (X : ℕ → ℕ) (F : ℕ → ℕ → ℕ) (t r z : ℕ) → ((s : ℕ) → s ≤ t → z ≤ X s + F s r) → z ≤ ahead X F t r
unfolding ahead
ahead_above X F t r z p = least_above 0 t (λ s. X s + F s r) z (omega arith) (λ s s0 st. p s st)

-- The step's total keeps x + n, w(d) and y + q, and whatever keeps them is at most the step's total.
module _ (w : ℕ → ℕ) (y : ℕ) (d q : Limit) (x n : ℕ) where
  -- what the delay limit leaves of the arrivals
  timely : ℕ
  timely = cut (x + n) (map_limit w d)

  step-arrivals : ahead_admitted w y d q x n ≤ x + n
  unfolding timely
  step-arrivals = omega (arith, cut_under timely (map_limit (λ b. y + b) q), cut_under (x + n) (map_limit w d))

  step-delay : (k : ℕ) → d ≡ at_most k → ahead_admitted w y d q x n ≤ w k
  unfolding timely
  step-delay k e =
      omega (arith, cut_under timely (map_limit (λ b. y + b) q), within_mapped w d timely k (cut_within (x + n) (map_limit w d)) e)

  step-buffer : (b : ℕ) → q ≡ at_most b → ahead_admitted w y d q x n ≤ y + b
  unfolding timely
  step-buffer b e = within_mapped (λ b. y + b) q _ b (cut_within timely (map_limit (λ b. y + b) q)) e

  step_above : (z : ℕ) → z ≤ x + n → ((k : ℕ) → d ≡ at_most k → z ≤ w k) → ((b : ℕ) → q ≡ at_most b → z ≤ y + b) → z ≤ ahead_admitted w y d q x n
  step_above z p delay buffer =
      cut_above _ _ z (cut_above _ _ z p (within-map w d z delay)) (within-map (λ b. y + b) q z buffer)

-- Totals X fed to a regulator with the envelope F, and w(k) the most that may have departed by slot t+1+k.
module _ (F : ℕ → ℕ → ℕ) (X : ℕ → ℕ) (t : ℕ) (w : ℕ → ℕ) (same : (k : ℕ) → w k ≡ ahead X F t (suc t + k)) where
  below : (s k : ℕ) → s ≤ t → w k ≤ X s + F s (suc t + k)
  below s k p = omega (arith, same k, ahead_below X F t (suc t + k) s p)

  above : (z k : ℕ) → ((s : ℕ) → s ≤ t → z ≤ X s + F s (suc t + k)) → z ≤ w k
  above z k p = omega (arith, same k, ahead_above X F t (suc t + k) z p)

  below_now : (s : ℕ) → s ≤ t → w 0 ≤ X s + F s (suc t)
  below_now s p = let e : suc t + 0 ≡ suc t = omega arith in rw e at (below s 0 p)

  above_now : (z : ℕ) → ((s : ℕ) → s ≤ t → z ≤ X s + F s (suc t)) → z ≤ w 0
  above_now z p = let e : suc t + 0 ≡ suc t = omega arith in above z 0 (rw e p)

  -- Y(t+1) is the smaller of X(t+1) and W(t,t+1).
  pub convolution-ahead : ClosedEnvelope F → convolution X F (suc t) ≡ ahead_departed w (X (suc t))
  convolution-ahead closed =
      le_antisymm
      (omega (arith, convolution_under X F closed (suc t), above_now (convolution X F (suc t)) (λ s p. convolution_below X F s (suc t) (omega arith))))
      (convolution_above X F (suc t) _
      (λ s p.
      elim (dec_le s t) [
        | yes r ↦ omega (arith, below_now s r)
        | no r ↦ let e : s ≡ suc t = omega arith in rw e (omega arith)
      ]))

module _ (F : ℕ → ℕ → ℕ) (closed : ClosedEnvelope F) (d q : Limit) (a : ℕ → ℕ) (t : ℕ) (w : ℕ → ℕ)
    (same : (k : ℕ) → w k ≡ ahead (admitted F d q a) F t (suc t + k)) where
  abbrev X : ℕ → ℕ
  X = admitted F d q a

  abbrev Y : ℕ → ℕ
  Y = departed F d q a

  -- X(t+1) is the least of X(t) + a(t+1), W(t,t+1+d) and Y(t) + q.
  pub admitted-ahead : admitted F d q a (suc t) ≡ ahead_admitted w (departed F d q a t) d q (admitted F d q a t) (a (suc t))
  unfolding admitted
  admitted-ahead =
      let z : ℕ = ahead_admitted w (Y t) d q (X t) (a (suc t)) in
      le_antisymm
      (step_above w (Y t) d q (X t) (a (suc t)) _ (admitted-arrivals F closed d q a t)
      (λ k e. above F X t w same _ k (λ s p. admitted-delay F closed d q a s (suc t) k (omega arith) e))
      (λ b e. buffer-kept F closed d q a b e t))
      (clipped_above (clipper_envelope F d q) a t z (step-arrivals w (Y t) d q (X t) (a (suc t)))
      (λ s m p e.
      omega (
        arith,
        bound-kept F d q s (suc t) (z - X s)
            (λ k e. omega (arith, step-delay w (Y t) d q (X t) (a (suc t)) k e, below F X t w same s k p))
            (λ b e. omega (arith, step-buffer w (Y t) d q (X t) (a (suc t)) b e, departed-before s p)) m e,
      )))
    where
      departed-before : (s : ℕ) → s ≤ t → Y t ≤ X s + F s (suc t - 1)
      departed-before s p = let back : suc t - 1 ≡ t = omega arith in rw back (unfold departed in convolution_below X F s t p)

  -- Y(t+1) is the smaller of X(t+1) and W(t,t+1).
  pub departed-ahead : departed F d q a (suc t) ≡ ahead_departed w (admitted F d q a (suc t))
  unfolding departed
  departed-ahead = convolution-ahead F X t w same closed
