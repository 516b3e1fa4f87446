-- Laws of the first place of a range where a test holds.
use mathlib.Core.Path.{◌≡◌, refl}
use mathlib.Core.Bool.{Bool, true, false, cond}
use Prim.Native.Nat.{ℕ, suc, ◌≤◌, ◌<◌}
use native.Mathlib.Nat.{le_antisymm}
use native.Mathlib.Decide.{dec_le}
use native.Mathlib.Omega.{arith}
use lib.Dec.{T}
use Rattle.calculus.specs.Numbers.FirstWhere.{first_where}
use Rattle.calculus.proofs.Numbers.Least.{least_below, least_attained}

chosen : (b : Bool) (x y : ℕ) → T b → cond b x y ≡ x
chosen true x y h = refl
chosen false x y h = absurd h

chose : (b : Bool) (x y z : ℕ) → z ≡ cond b x y → z < y → T b × (z ≡ x)
chose true x y z e p = (tt, e)
chose false x y z e p = absurd (omega arith)

-- The first place where p holds is no later than any other, and where it is in the range, p holds there.
pub first_where_below : (a b : ℕ) (p : ℕ → Bool) (k : ℕ) → a ≤ k → k ≤ b → T (p k) → first_where a b p ≤ k
unfolding first_where
first_where_below a b p k ak kb holds = omega (arith, least_below a b (λ k. cond (p k) k (suc b)) k ak kb, chosen (p k) k (suc b) holds)

pub first_where-holds : (a b : ℕ) (p : ℕ → Bool) → a ≤ b → first_where a b p ≤ b → (a ≤ first_where a b p) × T (p (first_where a b p))
unfolding first_where
first_where-holds a b p ab found =
    let (j, aj, jb, e) = least_attained a b (λ k. cond (p k) k (suc b)) ab in
    let (there, same) = chose (p j) j (suc b) (first_where a b p) e (omega arith) in
    (omega arith, rw same there)

-- What a search from a on comes to.
pub first_where-is : (a b : ℕ) (p : ℕ → Bool) (k : ℕ) → a ≤ k → k ≤ b → T (p k) → ((j : ℕ) → a ≤ j → j < k → T (p j) → ⊥) → first_where a b p ≡ k
first_where-is a b p k ak kb here before =
    let under : first_where a b p ≤ k = first_where_below a b p k ak kb here in
    let (least, there) = first_where-holds a b p (omega arith) (omega arith) in
    elim (dec_le k (first_where a b p)) [
      | yes r ↦ le_antisymm under r
      | no r ↦ absurd (before (first_where a b p) least (omega arith) there)
    ]
