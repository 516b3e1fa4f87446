-- What the rows are filled with, for any table and any counts.
use Rattle.std.specs.Prelude.{◌≡◌, ℕ, zero, suc, ◌+◌, ◌%◌, ◌<◌, ◌≤◌, List, length, nat_le, slice_index}
use Rattle.calculus.specs.Numbers.Lists.{list_of}
use Rattle.orders.specs.Refusal.{pick}
use Rattle.settings.specs.Taken.{taken}
use Rattle.envelope.specs.Envelope.{bound}
use Rattle.chain.specs.Links.{at_window}

-- f of the table that is taken is put at the windows 0 to n, and the rest is untouched
pub record Filled (table row row' : List ℕ) (n : ℕ) : Type 0 where
  pub filled : (w : ℕ) → w ≤ n → at_window row' w ≡ bound (taken table).envelope w
  pub kept : (w : ℕ) → n < w → w ≤ 4160 → at_window row' w ≡ at_window row w

-- the sum of the first k counts, on 32 bits
unfoldable pub total_at : List ℕ → ℕ → ℕ
total_at counts zero = 0
total_at counts (suc k) = (total_at counts k + slice_index counts k) % 0x1_0000_0000

-- a row of 4,161 totals over which those of some counts are put, 0 first; the rest is untouched
unfoldable pub summed_over : List ℕ → List ℕ → List ℕ
summed_over counts totals = list_of (λ k. pick (nat_le k (length counts)) (total_at counts k) (slice_index totals k)) 4161
