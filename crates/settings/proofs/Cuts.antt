-- Laws of a total that is cut down.
use mathlib.Core.Path.{◌≡◌, refl}
use Prim.Native.Nat.{ℕ}
use native.Mathlib.Omega.{arith}
use Rattle.calculus.specs.Numbers.Limit.{Limit, none, at_most, cut}

-- Which of two limits cuts first is the same.
pub cut_swaps : (total : ℕ) (l m : Limit) → cut (cut total m) l ≡ cut (cut total l) m
unfolding cut
cut_swaps total none none = refl
cut_swaps total none (at_most b) = refl
cut_swaps total (at_most a) none = refl
cut_swaps total (at_most a) (at_most b) = omega arith
