-- The digits of a number by their readable rule, and how many there are.
use mathlib.Core.Path.{◌≡◌, refl, ap, ◌∙◌}
use mathlib.Core.List.{List, [], ◌∷◌, ◌++◌}
use Prim.Native.Nat.{ℕ, zero, suc, ◌+◌, ◌/◌, ◌%◌, ◌^◌, ◌≤◌, ◌<◌}
use native.Mathlib.Decide.{dec_le, dec_lt}
use native.Mathlib.Omega.{arith}
use native.Mathlib.Nat.{pow-succ'}
use lib.ListN.{length, length-append}
use lib.Dec.{ltb}
use borrow.Author.Tests.{lt-ltb, le-ltb}
use Rattle.text.specs.Digits.{last_digit, digits_within, digits}

-- One more step than enough changes nothing.
digits_within_more : (steps n : ℕ) → n ≤ steps → digits_within (suc steps) (ltb n 10) n ≡ digits_within steps (ltb n 10) n
unfolding digits_within
digits_within_more zero n p = let small : n < 10 = omega arith in rw (lt-ltb n 10 small)
digits_within_more (suc steps) n p =
    elim (dec_lt n 10) [
      | yes q ↦ rw (lt-ltb n 10 q)
      | no q ↦
          let many : 10 ≤ n = omega arith in
          rw (le-ltb n 10 many) (ap (λ (l : List ℕ). l ++ (last_digit n ∷ [])) (digits_within_more steps (n / 10) (omega arith)))
    ]

digits_within_enough : (steps n : ℕ) → n ≤ steps → digits_within steps (ltb n 10) n ≡ digits n
unfolding digits
digits_within_enough zero n p = let e : 0 ≡ n = omega arith in rw e
digits_within_enough (suc steps) n p =
    elim (dec_le n steps) [
      | yes q ↦ digits_within_more steps n q ∙ digits_within_enough steps n q
      | no q ↦ let e : suc steps ≡ n = omega arith in rw e
    ]

pub digits_one : (n : ℕ) → n < 10 → digits n ≡ last_digit n ∷ []
unfolding digits digits_within
digits_one zero p = refl
digits_one (suc n) p = rw (lt-ltb (suc n) 10 p)

-- A number below ten is one digit.
pub digits_small : (n : ℕ) → n < 10 → digits n ≡ (48 + n) ∷ []
unfolding last_digit
digits_small n p = let e : n % 10 ≡ n = omega arith in rw (digits_one n p, e)

pub digits_split : (n : ℕ) → 10 ≤ n → digits n ≡ digits (n / 10) ++ (last_digit n ∷ [])
unfolding digits digits_within
digits_split zero p = absurd (omega arith)
digits_split (suc n) p = rw (le-ltb (suc n) 10 p) (ap (λ (l : List ℕ). l ++ (last_digit (suc n) ∷ [])) (digits_within_enough n (suc n / 10) (omega arith)))

-- Any other number has the digits of its tenth before its last.
pub digits_more : (n : ℕ) → 10 ≤ n → digits n ≡ digits (n / 10) ++ ((48 + n % 10) ∷ [])
unfolding last_digit
digits_more n p = digits_split n p

pub digits_longer : (n : ℕ) → 10 ≤ n → length (digits n) ≡ length (digits (n / 10)) + 1
digits_longer n p = ap length (digits_split n p) ∙ length-append (digits (n / 10)) _

-- A number below the (k+1)th power of ten has at most k + 1 digits.
pub digits_fit : (k n : ℕ) → n < 10 ^ suc k → length (digits n) ≤ suc k
digits_fit zero n p = rw (digits_one n p) (omega arith)
digits_fit (suc k) n p =
    elim (dec_lt n 10) [
      | yes q ↦ rw (digits_one n q) (omega arith)
      | no q ↦
          let many : 10 ≤ n = omega arith in
          omega (arith, digits_longer n many, digits_fit k (n / 10) (omega (arith, pow-succ' 10 (suc k))))
    ]
