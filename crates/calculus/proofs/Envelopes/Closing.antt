-- The closure's rule looks back: f(n) is worked out from f at the windows below n.
use mathlib.Core.Path.{refl, ap}
use Prim.Native.Nat.{ℕ, zero, suc, ◌+◌, ◌-◌, ◌≤◌, min}
use native.Mathlib.Omega.{arith}
use Rattle.calculus.specs.Envelopes.Closure.{closing}
use Rattle.calculus.proofs.Numbers.Least.{least_cong}
use Rattle.calculus.proofs.Numbers.Course.{LooksBack}

pub closing_looks_back : (L : ℕ) (table : ℕ → ℕ) → 1 ≤ L → LooksBack (closing L table)
unfolding closing
closing_looks_back L table pos f g zero same = refl
closing_looks_back L table pos f g (suc n) same =
    least_cong 1 (min L (suc n)) _ _ (omega arith) (λ k p q. ap (λ (z : ℕ). table k + z) (same (suc n - k) (omega arith)))
