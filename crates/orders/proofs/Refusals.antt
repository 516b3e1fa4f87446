-- Laws of refusal numbers.
use mathlib.Core.Path.{◌≡◌, refl}
use Prim.Native.Nat.{ℕ, zero, suc, ◌<◌, ◌≤◌}
use lib.Dec.{ltb, leb, eqb}
use Rattle.std.specs.Prelude.{◌≢◌}
use borrow.Author.Tests.{lt-ltb, le-ltb, le-leb, lt-leb, eq-eqb, ne_eqb}
use mathlib.Core.Bool.{Bool, true, false, not}
use native.Mathlib.Omega.{arith}
use Rattle.orders.specs.Refusal.{◌when◌, ◌or_else◌}

-- A number that is not 0 is the first that applies.
pub or_else-first : (first second : ℕ) → (first ≡ 0 → ⊥) → first or_else second ≡ first
unfolding ◌or_else◌
or_else-first zero second p = absurd (p refl)
or_else-first (suc first) second p = refl

-- A first number of 0 leaves the second.
pub or_else_second : (first second : ℕ) → first ≡ 0 → first or_else second ≡ second
unfolding ◌or_else◌
or_else_second first second e = rw e refl

-- Nothing is refused where neither of two numbers is given.
pub or_else_none : (first second : ℕ) → first or_else second ≡ 0 → (first ≡ 0) × (second ≡ 0)
unfolding ◌or_else◌
or_else_none zero second e = (refl, e)
or_else_none (suc first) second e = absurd (omega arith)

-- A number that is not given has a test that fails.
pub when_none : (n : ℕ) (b : Bool) → suc n when b ≡ 0 → b ≡ false
unfolding ◌when◌
when_none n true e = absurd (omega arith)
when_none n false e = refl

-- A number above the most that there may be is refused, and no other.
pub when_over : (number most n : ℕ) → most < n → number ≡ number when ltb most n
unfolding ◌when◌
when_over number most n p = rw (lt-ltb most n p)

pub when_within : (number most n : ℕ) → n ≤ most → 0 ≡ number when ltb most n
unfolding ◌when◌
when_within number most n p = rw (le-ltb most n p)

-- A number from the least that there may not be is refused, and no other.
pub when_from : (number least n : ℕ) → least ≤ n → number ≡ number when leb least n
unfolding ◌when◌
when_from number least n p = rw (le-leb least n p)

pub when_below : (number least n : ℕ) → n < least → 0 ≡ number when leb least n
unfolding ◌when◌
when_below number least n p = rw (lt-leb least n p)

-- A number other than the one that is wanted is refused, and no other.
pub when_other : (number n wanted : ℕ) → n ≢ wanted → number ≡ number when not (eqb n wanted)
unfolding ◌when◌
when_other number n wanted p = rw (ne_eqb n wanted p)

pub when_same : (number n wanted : ℕ) → n ≡ wanted → 0 ≡ number when not (eqb n wanted)
unfolding ◌when◌
when_same number n wanted p = rw (eq-eqb n wanted p)
