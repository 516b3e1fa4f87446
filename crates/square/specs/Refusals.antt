-- Judging a square (document 02, request 2.10). Each gives the first number that applies, and 0 where none does.
use Rattle.std.specs.Prelude.{ℕ, zero, suc, ◌≤◌, not, List, eqb, ltb}
use Rattle.calculus.specs.Numbers.Sizes.{most_packets}
use Rattle.square_calculus.specs.Square.{last_slot, square_entry}
use Rattle.orders.specs.Refusal.{◌when◌, ◌or_else◌}

-- the first number that applies among h(0), h(1), .., h(n-1)
unfoldable pub first_of : (ℕ → ℕ) → ℕ → ℕ
first_of h zero = 0
first_of h (suc n) = first_of h n or_else h n

-- 19: a non-zero entry
unfoldable pub below_diagonal_refusal : ℕ → ℕ
below_diagonal_refusal entry = 19 when not (eqb entry 0)

-- 3: an entry above 1,000,000; then 4: one below the one before
unfoldable pub entry_refusal : ℕ → ℕ → ℕ
entry_refusal before entry = 3 when ltb most_packets entry or_else 4 when ltb entry before

-- 19 on or below the diagonal: in row s at the slots 0 to s
unfoldable pub diagonal_refusal : (ℕ → ℕ → ℕ) → ℕ
diagonal_refusal F = first_of (λ s. first_of (λ t. below_diagonal_refusal (F s t)) (suc s)) (suc last_slot)

-- 3 and 4 along the rows
unfoldable pub rows_refusal : (ℕ → ℕ → ℕ) → ℕ
rows_refusal F = first_of (λ s. first_of (λ t. entry_refusal (F s t) (F s (suc t))) last_slot) (suc last_slot)

-- 19, then 3 and 4 along the rows
unfoldable pub square_refusal : List (List ℕ) → ℕ
square_refusal square = diagonal_refusal (square_entry square) or_else rows_refusal (square_entry square)

-- no entry above 1,000,000
unfoldable pub Small : List (List ℕ) → Type 0
Small square = (s t : ℕ) → s ≤ last_slot → t ≤ last_slot → square_entry square s t ≤ most_packets
