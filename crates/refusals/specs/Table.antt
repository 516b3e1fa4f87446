-- Judging a table (document 01, "Refused, by place": Table). Each gives the first number that applies, and 0 where none does.
use Rattle.std.specs.Prelude.{ℕ, ◌-◌, not, List, [], ◌∷◌, length, get_or, drop, ltb, eqb}
use Rattle.calculus.specs.Numbers.Sizes.{most_window, most_packets}
use Rattle.orders.specs.Refusal.{◌when◌, ◌or_else◌}

-- L: a table of L+1 entries ends at window L, and one without entries counts as outside
abbrev pub last_window : List ℕ → ℕ
last_window table = length table - 1

-- 1: L is not 1 to 64
unfoldable pub last_refusal : ℕ → ℕ
last_refusal last = 1 when ltb last 1 or_else 1 when ltb most_window last

-- 2: f(0) is not 0
unfoldable pub zero_refusal : List ℕ → ℕ
zero_refusal table = 2 when not (eqb (get_or table 0 0) 0)

-- at each entry from window 1 on, 3: above 1,000,000; then 4: below the one before
unfoldable pub entries_refusal : ℕ → List ℕ → ℕ
entries_refusal before [] = 0
entries_refusal before (entry ∷ later) = 3 when ltb most_packets entry or_else 4 when ltb entry before or_else entries_refusal entry later

-- 2, then the entries
abbrev pub values_refusal : List ℕ → ℕ
values_refusal table = zero_refusal table or_else entries_refusal 0 (drop 1 table)

-- 1, 2, then the entries
abbrev pub table_refusal : List ℕ → ℕ
table_refusal table = last_refusal (last_window table) or_else values_refusal table
