-- Laws of numbers that are each worked from those before: where the rule looks only at earlier numbers,
-- the course keeps the rule, and nothing else does.
use mathlib.Core.Path.{◌≡◌, refl, sym, ap, ◌∙◌}
use mathlib.Core.List.{[]}
use Prim.Native.Nat.{ℕ, zero, suc, ◌+◌, ◌≤◌, ◌<◌}
use native.Mathlib.Decide.{dec_le}
use native.Mathlib.Omega.{arith}
use native.Mathlib.Numerals.{add-one}
use lib.ListN.{length, get_or, length-append, get_or-append}
use lib.Seq.{get_or_at}
use Rattle.calculus.specs.Numbers.Course.{Rule, course, course_below}

-- Strong induction: what holds at n once it holds below n, holds.
pub strongly {ℓ} : (P : ℕ → Type ℓ) → ((n : ℕ) → ((k : ℕ) → k < n → P k) → P n) → (n : ℕ) → P n
strongly P step n = step n (below n)
  where
    below : (n : ℕ) (k : ℕ) → k < n → P k
    below zero k p = absurd (omega arith)
    below (suc n) k p = step k (λ j q. below n j (omega arith))

-- the rule at n depends on the numbers below n alone
abbrev pub LooksBack : Rule → Type 0
LooksBack rule = (f g : ℕ → ℕ) (n : ℕ) → ((k : ℕ) → k < n → f k ≡ g k) → rule f n ≡ rule g n

length-course_below : (rule : Rule) (n : ℕ) → length (course_below rule n) ≡ n
unfolding course_below
length-course_below rule zero = refl
length-course_below rule (suc n) =
    length-append (course_below rule n) _ ∙ ap (λ (k : ℕ). k + 1) (length-course_below rule n) ∙ add-one n

-- the list of numbers below n holds the course
course_below_at : (rule : Rule) (n k : ℕ) → k < n → get_or (course_below rule n) k 0 ≡ course rule k
unfolding course_below course
course_below_at rule zero k p = absurd (omega arith)
course_below_at rule (suc n) k p =
    let l : length (course_below rule n) ≡ n = length-course_below rule n in
    elim (dec_le (suc k) n) [
      | yes q ↦ get_or-append (course_below rule n) _ 0 k (omega arith) ∙ course_below_at rule n k q
      | no q ↦ let e : k ≡ n = omega arith in
          rw e (get_or_at (course_below rule n) _ [] 0 n l)
    ]

-- The course keeps its rule.
pub course-keeps : (rule : Rule) → LooksBack rule → (n : ℕ) → course rule n ≡ rule (course rule) n
unfolding course
course-keeps rule back n = back (λ k. get_or (course_below rule n) k 0) (course rule) n (λ k p. course_below_at rule n k p)

-- Two functions that keep the rule up to n are equal there.
pub course_only : (rule : Rule) → LooksBack rule → (f : ℕ → ℕ) (n : ℕ) → ((k : ℕ) → k ≤ n → f k ≡ rule f k) → f n ≡ course rule n
course_only rule back f n keeps = strongly Same step n (omega arith)
  where
    Same : ℕ → Type 0
    Same k = k ≤ n → f k ≡ course rule k

    step : (k : ℕ) → ((j : ℕ) → j < k → Same j) → Same k
    step k ih p =
        keeps k p ∙ back f (course rule) k (λ j q. ih j q (omega arith)) ∙ sym (course-keeps rule back k)
