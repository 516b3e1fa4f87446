-- The least sum of two rows, place by place, on numbers of 64 bits.
use Rattle.std.specs.Prelude.{ℕ, zero, suc, ◌+◌, ◌-◌, ◌%◌, min, List, length, get_or, drop}

-- the largest number of 64 bits, which stands for infinity
abbrev pub top : ℕ
top = 0xffff_ffff_ffff_ffff

-- the sum at one place, on 64 bits
unfoldable pub sum_at : List ℕ → List ℕ → ℕ → ℕ
sum_at a b i = (get_or a i 0 + get_or b i 0) % 0x1_0000_0000_0000_0000

-- the least of the sums at the first n places, and infinity where there is none
unfoldable pub least_sum : List ℕ → List ℕ → ℕ → ℕ
least_sum a b zero = top
least_sum a b (suc n) = min (least_sum a b n) (sum_at a b n)

-- the least of the four sums from place i on
unfoldable pub four_sums : List ℕ → List ℕ → ℕ → ℕ
four_sums a b i = min (min (sum_at a b i) (sum_at a b (i + 1))) (min (sum_at a b (i + 2)) (sum_at a b (i + 3)))

-- the least of the sums at `count` places, from place p of the one row and place q of the other on, as far as both rows go
unfoldable pub least_sum_from : List ℕ → ℕ → List ℕ → ℕ → ℕ → ℕ
least_sum_from a p b q count = least_sum (drop p a) (drop q b) (min count (min (length a - p) (length b - q)))

-- the least of `first` and of the sums at the first n places, exactly
unfoldable pub least_with : ℕ → List ℕ → List ℕ → ℕ → ℕ
least_with first a b zero = first
least_with first a b (suc n) = min (least_with first a b n) (get_or a n 0 + get_or b n 0)
