-- How many bytes the printed lines have.
use mathlib.Core.Path.{◌≡◌, refl}
use mathlib.Core.List.{List, [], ◌∷◌}
use Prim.Native.Nat.{ℕ, ◌+◌, ◌^◌, ◌≤◌, ◌<◌}
use native.Mathlib.Omega.{arith}
use lib.ListN.{length, length-append}
use Rattle.text.specs.Digits.{digits}
use Rattle.text.specs.Lines.{bytes, numbers, line, heading}
use Rattle.text.proofs.Digits.{digits_fit}

pub heading-length : length heading ≡ 44
unfolding heading bytes
heading-length = refl

-- A number that closes a line has a space before it and a line feed after it.
pub numbers_one : (n : ℕ) → length (numbers (n ∷ [])) ≡ 2 + length (digits n)
unfolding numbers
numbers_one n = simp length-append (omega arith)

-- The five numbers of a table's line: a space before each, and the line feed.
pub numbers_five : (a b c d e : ℕ) → length (numbers (a ∷ b ∷ c ∷ d ∷ e ∷ [])) ≡ 6 + length (digits a) + length (digits b) + length (digits c) + length (digits d) + length (digits e)
unfolding numbers
numbers_five a b c d e = simp length-append (omega arith)

pub line-length : (first later : List ℕ) → length (line first later) ≡ length first + length (numbers later)
unfolding line
line-length first later = length-append first (numbers later)

-- A slot's line has at most 64 bytes: 4 digits of the slot, 10 of each count of 32 bits, 14 of the held total.
pub line_fits : (slot a b c d e : ℕ) → slot < 10 ^ 4 → a < 2 ^ 32 → b < 2 ^ 32 → c < 2 ^ 32 → d < 2 ^ 32 → e < 10 ^ 14
    → length (line (digits slot) (a ∷ b ∷ c ∷ d ∷ e ∷ [])) ≤ 64
line_fits slot a b c d e ps pa pb pc pd pe =
    omega (
      arith,
      line-length (digits slot) (a ∷ b ∷ c ∷ d ∷ e ∷ []),
      numbers_five a b c d e,
      digits_fit 3 slot ps,
      digits_fit 9 a (omega arith),
      digits_fit 9 b (omega arith),
      digits_fit 9 c (omega arith),
      digits_fit 9 d (omega arith),
      digits_fit 13 e pe,
    )

-- The numbers of the line of totals have at most 76 bytes: 14 digits each.
pub totals_fit : (a b c d e : ℕ) → a < 10 ^ 14 → b < 10 ^ 14 → c < 10 ^ 14 → d < 10 ^ 14 → e < 10 ^ 14
    → length (numbers (a ∷ b ∷ c ∷ d ∷ e ∷ [])) ≤ 76
totals_fit a b c d e pa pb pc pd pe =
    omega (arith, numbers_five a b c d e, digits_fit 13 a pa, digits_fit 13 b pb, digits_fit 13 c pc, digits_fit 13 d pd, digits_fit 13 e pe)

-- A refusal's number of 32 bits, with its space and its line feed, has at most 12 bytes.
pub number_fits : (n : ℕ) → n < 2 ^ 32 → length (numbers (n ∷ [])) ≤ 12
number_fits n p = omega (arith, numbers_one n, digits_fit 9 n (omega arith))
