-- The least of a number and of h at 1 to n: at most each, and one of them.
use mathlib.Core.Path.{◌≡◌, refl, sym, ap, ◌∙◌}
use mathlib.Core.Logic.{◌⊎◌, inl, inr}
use Prim.Native.Nat.{ℕ, zero, suc, ◌+◌, ◌-◌, ◌≤◌, min}
use native.Mathlib.Decide.{dec_le}
use native.Mathlib.Omega.{arith}
use Rattle.found_links.specs.FoundRows.{least_to}

module _ (first : ℕ) (h : ℕ → ℕ) where
  abbrev least : ℕ → ℕ
  least = least_to first h

  pub least_none : first ≡ least_to first h 0
  unfolding least_to
  least_none = refl

  -- Taken from 1 on: the k-th, ..
  -- Taken from 1 on: the k-th, and what is next.
  pub least_at : (k x y : ℕ) → 1 ≤ k → x ≡ least_to first h (k - 1) → y ≡ h k → min x y ≡ least_to first h k
  unfolding least_to
  least_at zero x y some e p = absurd (omega arith)
  least_at (suc n) x y some e p = let before : suc n - 1 ≡ n = omega arith in rw (e, before, p) refl

  pub least_on : (k x y : ℕ) → 1 ≤ k → x ≡ least_to first h (k - 1) → y ≡ h k → min x y ≡ least_to first h (k + 1 - 1)
  least_on k x y some e p = let next : k + 1 - 1 ≡ k = omega arith in least_at k x y some e p ∙ ap (least_to first h) (sym next)

  pub least_first : (n : ℕ) → least_to first h n ≤ first
  unfolding least_to
  least_first zero = omega arith
  least_first (suc n) = omega (arith, least_first n)

  pub least_below : (n k : ℕ) → 1 ≤ k → k ≤ n → least_to first h n ≤ h k
  unfolding least_to
  least_below zero k one p = absurd (omega arith)
  least_below (suc n) k one p =
      elim (dec_le k n) [
        | yes q ↦ omega (arith, least_below n k one q)
        | no q ↦ let last : k ≡ suc n = omega arith in rw last (omega arith)
      ]

  pub least_attained : (n : ℕ) → (least_to first h n ≡ first) ⊎ ((k : ℕ) × (1 ≤ k) × (k ≤ n) × (least_to first h n ≡ h k))
  unfolding least_to
  least_attained zero = inl refl
  least_attained (suc n) =
      elim (dec_le (least n) (h (suc n))) [
        | yes q ↦ elim (least_attained n) [ inl e ↦ inl (omega arith) | inr (k, low, high, e) ↦ inr (k, low, omega arith, omega arith) ]
        | no q ↦ inr (suc n, omega arith, omega arith, omega arith)
      ]
