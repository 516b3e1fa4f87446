-- Laws of theorem 5.1's totals X and Y, for a closed envelope: the limits are kept, and the counts balance.
use mathlib.Core.Path.{◌≡◌, refl, ap, ap₂}
use mathlib.Core.Logic.{inl, inr}
use Prim.Native.Nat.{ℕ, zero, suc, ◌+◌, ◌-◌, ◌≤◌, ◌<◌}
use native.Mathlib.Decide.{dec_le}
use native.Mathlib.Omega.{arith}
use Rattle.calculus.specs.Numbers.Least.{least}
use Rattle.calculus.specs.Numbers.Limit.{Limit, none, at_most, map_limit, smaller, cut}
use Rattle.calculus.specs.Envelopes.Envelope.{windows, ClosedEnvelope}
use Rattle.calculus.specs.Regulators.Clipper.{arrived, clipped, delay_bound, buffer_bound, clipper_window, clipper_envelope, admitted}
use Rattle.calculus.specs.Regulators.Regulator.{departed, lost, held}
use Rattle.calculus.proofs.Numbers.Limit.{Within}
use Rattle.calculus.proofs.Regulators.Clipper.{arrived-slot, arrived_rises, clipped-zero, clipped-rule, clipped-arrivals, clipped-arrived, clipped-loss_rises, clipped_cong, clipped_attained, bound-delay, bound-buffer, bound-kept}
use Rattle.calculus.proofs.Regulators.ClipperBounds.{clipped_within, clipped_rises}
use Rattle.calculus.proofs.Regulators.Convolution.{convolution_below, convolution_attained, convolution_under, convolution-keeps, convolution_rises}

windows-delay : (f : ℕ → ℕ) (s r : ℕ) → s < r → (d : Limit) → delay_bound (windows f s) d r ≡ delay_bound f d (r - s)
unfolding delay_bound map_limit windows
windows-delay f s r p none = refl
windows-delay f s r p (at_most n) = let e : r + n - s ≡ r - s + n = omega arith in ap (λ (k : ℕ). at_most (f k)) e

windows-buffer : (f : ℕ → ℕ) (s r : ℕ) → s < r → (q : Limit) → buffer_bound (windows f s) q r ≡ buffer_bound f q (r - s)
unfolding buffer_bound windows
windows-buffer f s r p q = let e : r - 1 - s ≡ r - s - 1 = omega arith in ap (λ (k : ℕ). map_limit (λ n. f k + n) q) e

windows-bound : (f : ℕ → ℕ) (d q : Limit) (s r : ℕ) → s < r → clipper_envelope (windows f) d q s r ≡ clipper_window f d q (r - s)
unfolding clipper_envelope clipper_window
windows-bound f d q s r p = ap₂ smaller (windows-delay f s r p d) (windows-buffer f s r p q)

-- With no delay limit the bound is the buffer's.
bound_undelayed : (F : ℕ → ℕ → ℕ) (q : Limit) (s t n m : ℕ) → q ≡ at_most n → clipper_envelope F none q s t ≡ at_most m → F s (t - 1) + n ≡ m
unfolding clipper_envelope clipper_window delay_bound buffer_bound map_limit smaller
bound_undelayed F q s t n m eq e = let z : at_most (F s (t - 1) + n) ≡ at_most m = rw eq at e in cc

-- With an envelope of windows the clipper's bound is document 01's g(t-s).
pub admitted_by-windows : (f : ℕ → ℕ) (d q : Limit) (a : ℕ → ℕ) (t : ℕ)
    → admitted (windows f) d q a t ≡ clipped (λ s t. clipper_window f d q (t - s)) a t
unfolding admitted
admitted_by-windows f d q a t = clipped_cong _ _ a a t (λ s r p rt. windows-bound f d q s r p) (λ k p. refl)

-- Document 01's rule: X(t) is the least of X(t-1) + A(t) - A(t-1) and all X(s) + g(t-s) for s from 0 to t-1.
pub admitted-rule : (f : ℕ → ℕ) (d q : Limit) (a : ℕ → ℕ) (t : ℕ)
    → admitted (windows f) d q a (suc t)
    ≡ least 0 t (λ s. cut (admitted (windows f) d q a t + (arrived a (suc t) - arrived a t)) (map_limit (λ g. admitted (windows f) d q a s + g) (clipper_window f d q (suc t - s))))
admitted-rule f d q a t = simp (admitted_by-windows f d q a) (clipped-rule (λ s t. clipper_window f d q (t - s)) a t)

module _ (F : ℕ → ℕ → ℕ) (closed : ClosedEnvelope F) (d q : Limit) (a : ℕ → ℕ) where
  -- both totals start at 0
  pub admitted-zero : admitted F d q a 0 ≡ 0
  unfolding admitted
  admitted-zero = clipped-zero (clipper_envelope F d q) a

  -- No more is admitted in a slot than arrives in it.
  pub admitted-arrivals : (t : ℕ) → admitted F d q a (suc t) ≤ admitted F d q a t + a (suc t)
  unfolding admitted
  admitted-arrivals = clipped-arrivals (clipper_envelope F d q) a

  pub admitted-arrived : (t : ℕ) → admitted F d q a t ≤ arrived a t
  unfolding admitted
  admitted-arrived = clipped-arrived (clipper_envelope F d q) a

  within_envelope : (s t : ℕ) → s < t → Within (admitted F d q a t - admitted F d q a s) (clipper_envelope F d q s t)
  unfolding admitted
  within_envelope s t p n e = omega (arith, clipped_within (clipper_envelope F d q) a s t p n e)

  -- X(t) is at most X(s) + F(s,t+d).
  pub admitted-delay : (s t n : ℕ) → s < t → d ≡ at_most n → admitted F d q a t ≤ admitted F d q a s + F s (t + n)
  admitted-delay s t n p e = omega (arith, bound-delay F d q s t _ (within_envelope s t p) n e)

  -- X(t+1) is at most X(s) + F(s,t) + q.
  admitted-buffer : (s t n : ℕ) → s ≤ t → q ≡ at_most n → admitted F d q a (suc t) ≤ admitted F d q a s + F s t + n
  admitted-buffer s t n p e =
      let back : suc t - 1 ≡ t = omega arith in
      omega (arith, bound-buffer F d q s (suc t) _ (within_envelope s (suc t) (omega arith)) n e, ap (F s) back)

  -- The admitted total does not fall.
  pub admitted_rises : (i j : ℕ) → i ≤ j → admitted F d q a i ≤ admitted F d q a j
  unfolding admitted
  admitted_rises = clipped_rises (clipper_envelope F d q) a rises
    where
      rises : (s t x : ℕ) → s < t → Within x (clipper_envelope F d q s t) → Within x (clipper_envelope F d q s (suc t))
      rises s t x p w =
          bound-kept F d q s (suc t) x
          (λ n e. omega (arith, closed.rises s (t + n) (suc t + n) (omega arith), bound-delay F d q s t x w n e))
          (λ n e. omega (arith, closed.rises s (t - 1) (suc t - 1) (omega arith), bound-buffer F d q s t x w n e))

  -- No more departs than was admitted.
  pub departed_under : (t : ℕ) → departed F d q a t ≤ admitted F d q a t
  unfolding departed
  departed_under = convolution_under (admitted F d q a) F closed

  pub departed-zero : departed F d q a 0 ≡ 0
  departed-zero = omega (arith, departed_under 0, admitted-zero)

  -- The departed total does not fall.
  pub departed_rises : (i j : ℕ) → i ≤ j → departed F d q a i ≤ departed F d q a j
  unfolding departed
  departed_rises = convolution_rises (admitted F d q a) F closed admitted_rises

  -- Departures keep the envelope.
  pub departed-keeps : (s t : ℕ) → s ≤ t → departed F d q a t ≤ departed F d q a s + F s t
  unfolding departed
  departed-keeps = convolution-keeps (admitted F d q a) F closed

  -- The buffer limit is kept before every slot's departures.
  pub buffer-kept : (n : ℕ) → q ≡ at_most n → (t : ℕ) → admitted F d q a (suc t) ≤ departed F d q a t + n
  unfolding departed
  buffer-kept n e t =
      let (s, st, same) = convolution_attained (admitted F d q a) F t in
      omega (arith, admitted-buffer s t n st e)

  -- With no delay limit packets are dropped only from what would not fit the buffer: a rule for ours, and for no other permitted pair.
  pub dropped_full : (n : ℕ) → q ≡ at_most n → d ≡ none → (t : ℕ) → admitted F d q a (suc t) < admitted F d q a t + a (suc t) → departed F d q a t + n ≤ admitted F d q a (suc t)
  unfolding admitted departed
  dropped_full n eq ed t less =
      elim (clipped_attained (clipper_envelope F d q) a t) [
        | inl same ↦ absurd (omega arith)
        | inr (s, m, st, limit, same) ↦ let back : suc t - 1 ≡ t = omega arith in
            omega (arith, bound_undelayed F q s (suc t) n m eq (rw ed at limit), ap (F s) back, convolution_below (admitted F d q a) F s t st)
      ]

  -- With a buffer limit of 0 nothing is ever admitted.
  pub nothing-admitted : q ≡ at_most 0 → (t : ℕ) → admitted F d q a t ≡ 0
  nothing-admitted e zero = admitted-zero
  nothing-admitted e (suc t) = omega (arith, buffer-kept 0 e t, departed_under t, nothing-admitted e t)

  -- Every packet admitted by slot t has left by slot t+d.
  pub delay-kept : (n : ℕ) → d ≡ at_most n → (t : ℕ) → admitted F d q a t ≤ departed F d q a (t + n)
  unfolding departed
  delay-kept n e t =
      let (s, st, same) = convolution_attained (admitted F d q a) F (t + n) in
      elim (dec_le t s) [
        | yes p ↦ omega (arith, admitted_rises t s p)
        | no p ↦ omega (arith, admitted-delay s t n (omega arith) e)
      ]

  -- The loss does not fall.
  pub lost_rises : (i j : ℕ) → i ≤ j → lost F d q a i ≤ lost F d q a j
  unfolding lost admitted
  lost_rises = clipped-loss_rises (clipper_envelope F d q) a

  -- What arrives in a slot less what is admitted in it is what the loss grows by.
  pub lost-slot : (t : ℕ) → a (suc t) - (admitted F d q a (suc t) - admitted F d q a t) ≡ lost F d q a (suc t) - lost F d q a t
  unfolding lost
  lost-slot t =
      omega (arith, arrived-slot a t, admitted-arrivals t, admitted-arrived t, admitted-arrived (suc t), admitted_rises t (suc t) (omega arith))

  -- Over any run of slots, arrived is admitted plus dropped.
  pub arrived_balance : (s t : ℕ) → s ≤ t
      → arrived a t - arrived a s ≡ admitted F d q a t - admitted F d q a s + (lost F d q a t - lost F d q a s)
  unfolding lost
  arrived_balance s t p =
      omega (arith, admitted-arrived s, admitted-arrived t, admitted_rises s t p, arrived_rises a s t p, lost_rises s t p)

  -- Over any run of slots, held before plus admitted is departed plus held after.
  pub held_balance : (s t : ℕ) → s ≤ t
      → held F d q a s + (admitted F d q a t - admitted F d q a s) ≡ departed F d q a t - departed F d q a s + held F d q a t
  unfolding held
  held_balance s t p = omega (arith, departed_under s, departed_under t, admitted_rises s t p, departed_rises s t p)
