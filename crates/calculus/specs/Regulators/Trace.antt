-- A trace: the arrivals of slots 1 to T as a list, and running totals slot by slot.
use Rattle.std.specs.Prelude.{ℕ, zero, suc, ◌+◌, ◌-◌, List, get_or}
use Rattle.calculus.specs.Numbers.Lists.{list_of}

-- a(t): the arrivals of slot t; a slot beyond the trace has none
unfoldable pub arrivals : List ℕ → ℕ → ℕ
arrivals trace zero = 0
arrivals trace (suc t) = get_or trace t 0

-- what a total counts in each of the slots 1 to T
unfoldable pub slot_counts : (ℕ → ℕ) → ℕ → List ℕ
slot_counts total T = list_of (λ t. total (suc t) - total t) T

-- a total at the end of each of the slots 1 to T
unfoldable pub slot_totals : (ℕ → ℕ) → ℕ → List ℕ
slot_totals total T = list_of (λ t. total (suc t)) T

-- the sum of the first t numbers of a list
unfoldable pub sum_to : List ℕ → ℕ → ℕ
sum_to l zero = 0
sum_to l (suc t) = sum_to l t + get_or l t 0
