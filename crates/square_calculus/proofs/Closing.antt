-- The closure's rule looks back: F*(s,t) is worked out from F* at the slots from s to t-1.
use mathlib.Core.Path.{refl, ap}
use Prim.Native.Nat.{ℕ, zero, suc, ◌+◌}
use native.Mathlib.Omega.{arith}
use Rattle.square_calculus.specs.Square.{closing_from}
use Rattle.calculus.proofs.Numbers.Least.{least_cong}
use Rattle.calculus.proofs.Numbers.Course.{LooksBack}

pub closing_from_looks_back : (F : ℕ → ℕ → ℕ) (s : ℕ) → LooksBack (closing_from F s)
unfolding closing_from
closing_from_looks_back F s f g zero same = refl
closing_from_looks_back F s f g (suc n) same =
    least_cong 0 n _ _ (omega arith) (λ k p q. ap (λ (z : ℕ). z + F (s + k) (s + suc n)) (same k (omega arith)))
