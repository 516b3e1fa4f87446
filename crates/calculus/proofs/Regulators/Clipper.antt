-- Laws of the clipper, for any bound G(s,t): it lets in as much as its bounds allow, and no totals that keep them are above.
use mathlib.Core.Path.{◌≡◌, refl, ap₂, ◌∙◌}
use mathlib.Core.Logic.{◌⊎◌, inl, inr}
use Prim.Native.Nat.{ℕ, zero, suc, ◌+◌, ◌-◌, ◌≤◌, ◌<◌}
use native.Mathlib.Nat.{le_antisymm}
use native.Mathlib.Omega.{arith}
use Rattle.calculus.proofs.Numbers.Distinct.{zero_one}
use Rattle.calculus.specs.Numbers.Least.{least}
use Rattle.calculus.specs.Numbers.Course.{course}
use Rattle.calculus.specs.Numbers.Limit.{Limit, none, at_most, map_limit, smaller, cut}
use Rattle.calculus.specs.Regulators.Clipper.{arrived, clipping, clipped, delay_bound, buffer_bound, clipper_window, clipper_envelope, admitted}
use Rattle.calculus.proofs.Numbers.Rising.{rising}
use Rattle.calculus.proofs.Numbers.Least.{least_below, least_above, least_attained, least_cong}
use Rattle.calculus.proofs.Numbers.Course.{strongly, LooksBack, course-keeps, course_only}
use Rattle.calculus.proofs.Numbers.Limit.{Within, cut_under, cut_above, cut_attained, map_limit-from, within-map, within_mapped, within-smaller, within_left, within_right}

-- What arrives by a slot is what arrived before it and in it.
pub arrived-slot : (a : ℕ → ℕ) (t : ℕ) → arrived a (suc t) ≡ arrived a t + a (suc t)
unfolding arrived
arrived-slot a t = refl

pub arrived-zero : (a : ℕ → ℕ) → arrived a 0 ≡ 0
unfolding arrived
arrived-zero a = refl

pub arrived_rises : (a : ℕ → ℕ) (i j : ℕ) → i ≤ j → arrived a i ≤ arrived a j
arrived_rises a i j p = rising (arrived a) j (λ t q. omega (arith, arrived-slot a t)) i j p (omega arith)

pub arrived_cong : (a b : ℕ → ℕ) (t : ℕ) → ((k : ℕ) → k ≤ t → a k ≡ b k) → arrived a t ≡ arrived b t
unfolding arrived
arrived_cong a b zero same = refl
arrived_cong a b (suc t) same = ap₂ ◌+◌ (arrived_cong a b t (λ k p. same k (omega arith))) (same (suc t) (omega arith))

clipping_looks_back : (G : ℕ → ℕ → Limit) (a : ℕ → ℕ) → LooksBack (clipping G a)
unfolding clipping
clipping_looks_back G a f g zero same = refl
clipping_looks_back G a f g (suc t) same =
    least_cong _ _ _ _ (omega arith)
    (λ s p q.
    ap₂ (λ (x y : ℕ). cut (x + (arrived a (suc t) - arrived a t)) (map_limit (λ n. y + n) (G s (suc t))))
    (same t (omega arith)) (same s (omega arith)))

module _ (G : ℕ → ℕ → Limit) (a : ℕ → ℕ) where
  -- X(0) is 0.
  pub clipped-zero : clipped G a 0 ≡ 0
  unfolding clipped course clipping
  clipped-zero = refl

  -- X(t) is the least of X(t-1) + A(t) - A(t-1) and all X(s) + G(s,t) for s from 0 to t-1.
  pub clipped-rule : (t : ℕ)
      → clipped G a (suc t) ≡ least 0 t (λ s. cut (clipped G a t + (arrived a (suc t) - arrived a t)) (map_limit (λ g. clipped G a s + g) (G s (suc t))))
  unfolding clipped clipping
  clipped-rule t = course-keeps (clipping G a) (clipping_looks_back G a) (suc t)

  -- the bound that slot s sets for slot t+1
  bound : ℕ → ℕ → ℕ
  bound t s = cut (clipped G a t + (arrived a (suc t) - arrived a t)) (map_limit (λ n. clipped G a s + n) (G s (suc t)))

  clipped-least : (t : ℕ) → clipped G a (suc t) ≡ least 0 t (bound t)
  unfolding bound
  clipped-least t = clipped-rule t

  -- X(t+1) is at most X(t) + a(t+1).
  pub clipped-arrivals : (t : ℕ) → clipped G a (suc t) ≤ clipped G a t + a (suc t)
  unfolding bound
  clipped-arrivals t =
      omega (
        arith,
        clipped-least t,
        least_below 0 t (bound t) t (omega arith) (omega arith),
        arrived-slot a t,
        cut_under (clipped G a t + (arrived a (suc t) - arrived a t)) (map_limit (λ n. clipped G a t + n) (G t (suc t))),
      )

  -- No more is let in than arrived, and the loss does not fall.
  pub clipped-arrived : (t : ℕ) → clipped G a t ≤ arrived a t
  clipped-arrived zero = omega (arith, clipped-zero)
  clipped-arrived (suc t) = omega (arith, clipped-arrived t, clipped-arrivals t, arrived-slot a t)

  pub clipped-loss_rises : (i j : ℕ) → i ≤ j → arrived a i - clipped G a i ≤ arrived a j - clipped G a j
  clipped-loss_rises i j p =
      rising (λ t. arrived a t - clipped G a t) j (λ t q. omega (arith, clipped-arrivals t, arrived-slot a t)) i j p (omega arith)

  -- What keeps every bound of slot t+1 is at most X(t+1).
  pub clipped_above : (t z : ℕ) → z ≤ clipped G a t + a (suc t)
      → ((s n : ℕ) → s ≤ t → G s (suc t) ≡ at_most n → z ≤ clipped G a s + n) → z ≤ clipped G a (suc t)
  unfolding bound
  clipped_above t z p q =
      rw (clipped-least t)
      (least_above 0 t (bound t) z (omega arith)
      (λ s s0 st.
      cut_above _ (map_limit (λ n. clipped G a s + n) (G s (suc t))) z (omega (arith, arrived-slot a t))
      (within-map (λ n. clipped G a s + n) (G s (suc t)) z (λ n e. q s n st e))))

  -- X(t+1) is X(t) + a(t+1), or some X(s) + G(s,t+1).
  pub clipped_attained : (t : ℕ)
      → (clipped G a (suc t) ≡ clipped G a t + a (suc t)) ⊎ ((s n : ℕ) × (s ≤ t) × (G s (suc t) ≡ at_most n) × (clipped G a (suc t) ≡ clipped G a s + n))
  unfolding bound
  clipped_attained t =
      let (s, s0, st, e) = least_attained 0 t (bound t) (omega arith) in
      elim (cut_attained (clipped G a t + (arrived a (suc t) - arrived a t)) (map_limit (λ n. clipped G a s + n) (G s (suc t)))) [
        | inl same ↦ inl (omega (arith, clipped-least t, arrived-slot a t))
        | inr (m, from, same) ↦ let (n, limit, e2) = map_limit-from (λ n. clipped G a s + n) (G s (suc t)) m from in
            inr (s, n, st, limit, omega (arith, clipped-least t))
      ]

  -- No totals that start at 0, admit no more than arrives and keep G are above the clipper's.
  pub clipped_largest : (T : ℕ) (u : ℕ → ℕ) → u 0 ≡ 0 → ((t : ℕ) → t < T → u (suc t) ≤ u t + a (suc t))
      → ((s t n : ℕ) → s < t → t ≤ T → G s t ≡ at_most n → u t ≤ u s + n) → (t : ℕ) → t ≤ T → u t ≤ clipped G a t
  clipped_largest T u starts admits keeps = strongly (λ t. t ≤ T → u t ≤ clipped G a t) step
    where
      step : (t : ℕ) → ((k : ℕ) → k < t → k ≤ T → u k ≤ clipped G a k) → t ≤ T → u t ≤ clipped G a t
      step zero ih p = omega (arith, clipped-zero)
      step (suc t) ih p =
          clipped_above t (u (suc t)) (omega (arith, admits t p, ih t (omega arith) (omega arith)))
          (λ s n q e. omega (arith, keeps s (suc t) n (omega arith) p e, ih s (omega arith) (omega arith)))

clipping_cong : (G H : ℕ → ℕ → Limit) (a b X : ℕ → ℕ) (T : ℕ) → ((s t : ℕ) → s < t → t ≤ T → G s t ≡ H s t)
    → ((t : ℕ) → t ≤ T → a t ≡ b t) → (t : ℕ) → t ≤ T → clipping G a X t ≡ clipping H b X t
unfolding clipping
clipping_cong G H a b X T same_g same_a zero p = refl
clipping_cong G H a b X T same_g same_a (suc t) p =
    let now : arrived a (suc t) ≡ arrived b (suc t) = arrived_cong a b (suc t) (λ k q. same_a k (omega arith)) in
    let before : arrived a t ≡ arrived b t = arrived_cong a b t (λ k q. same_a k (omega arith)) in
    least_cong _ _ _ _ (omega arith)
    (λ s s0 st.
    ap₂ (λ (n : ℕ) (g : Limit). cut (X t + n) (map_limit (λ n. X s + n) g))
    (ap₂ ◌-◌ now before) (same_g s (suc t) (omega arith) p))

-- Totals through slot T depend on the arrivals and the bounds through slot T alone.
pub clipped_cong : (G H : ℕ → ℕ → Limit) (a b : ℕ → ℕ) (T : ℕ) → ((s t : ℕ) → s < t → t ≤ T → G s t ≡ H s t)
    → ((t : ℕ) → t ≤ T → a t ≡ b t) → clipped G a T ≡ clipped H b T
unfolding clipped
clipped_cong G H a b T same_g same_a =
    course_only (clipping H b) (clipping_looks_back H b) (clipped G a) T
    (λ t p. course-keeps (clipping G a) (clipping_looks_back G a) t ∙ clipping_cong G H a b (clipped G a) T same_g same_a t p)

-- The clipper's bound is kept exactly where F(s,t+d) and F(s,t-1) + q are.
module _ (F : ℕ → ℕ → ℕ) (d q : Limit) (s t x : ℕ) where
  pub bound-delay : Within x (clipper_envelope F d q s t) → (n : ℕ) → d ≡ at_most n → x ≤ F s (t + n)
  unfolding clipper_envelope clipper_window delay_bound
  bound-delay w n e = within_mapped (λ n. F s (t + n)) d x n (within_left _ (buffer_bound (F s) q t) x w) e

  pub bound-buffer : Within x (clipper_envelope F d q s t) → (n : ℕ) → q ≡ at_most n → x ≤ F s (t - 1) + n
  unfolding clipper_envelope clipper_window buffer_bound
  bound-buffer w n e = within_mapped (λ n. F s (t - 1) + n) q x n (within_right (delay_bound (F s) d t) _ x w) e

  pub bound-kept : ((n : ℕ) → d ≡ at_most n → x ≤ F s (t + n)) → ((n : ℕ) → q ≡ at_most n → x ≤ F s (t - 1) + n) → Within x (clipper_envelope F d q s t)
  unfolding clipper_envelope clipper_window delay_bound buffer_bound
  bound-kept delay buffer = within-smaller _ _ x (within-map _ d x delay) (within-map _ q x buffer)

-- With both limits none everything is admitted.
pub admitted_all : (F : ℕ → ℕ → ℕ) (a : ℕ → ℕ) (t : ℕ) → admitted F none none a t ≡ arrived a t
unfolding admitted
admitted_all F a zero = omega (arith, clipped-zero (clipper_envelope F none none) a, arrived-zero a)
admitted_all F a (suc t) =
    le_antisymm (clipped-arrived (clipper_envelope F none none) a (suc t))
    (clipped_above (clipper_envelope F none none) a t (arrived a (suc t)) (omega (arith, admitted_all F a t, arrived-slot a t))
    (λ s n p e. absurd (never s n e)))
  where
    never : (s n : ℕ) → clipper_envelope F none none s (suc t) ≡ at_most n → ⊥
    never s n e = zero_one (unfold clipper_envelope clipper_window delay_bound buffer_bound map_limit smaller in cc)
