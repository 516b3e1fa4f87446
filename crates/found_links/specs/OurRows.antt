-- The rows of our own run of a trace.
use Rattle.std.specs.Prelude.{◌≡◌, List, ℕ, ◌+◌, ◌≤◌}
use Rattle.calculus.specs.Numbers.Limit.{at_most, delay_limit, buffer_limit}
use Rattle.calculus.specs.Regulators.Trace.{arrivals}
use Rattle.calculus.specs.Regulators.Rows.{envelope_of, admitted_by, departed_by}
use Rattle.found_links.specs.FoundRows.{FoundRows}

-- those of theorem 5.1's totals, by the slots 0 to `reach`; beyond the trace nothing arrives
abbrev pub OurRows : List ℕ → ℕ → ℕ → List ℕ → ℕ → List ℕ → List ℕ → List ℕ → List ℕ → Type 0
OurRows table d q trace reach =
    FoundRows (envelope_of table) (delay_limit d) (buffer_limit q) (arrivals trace) reach (admitted_by table (delay_limit d) (buffer_limit q) trace)
    (departed_by table (delay_limit d) (buffer_limit q) trace)

-- what the links to the slots 0 to `last` of a chain are found from: rows that reach the deadline of each
pub record ChainRows (table : List ℕ) (d q : ℕ) (trace : List ℕ) (last reach : ℕ) (admitted lost departed starts : List ℕ) : Type 0 where
  pub rows : OurRows table d q trace reach admitted lost departed starts
  pub within : last ≤ reach
  pub due : (n : ℕ) → delay_limit d ≡ at_most n → last + n ≤ reach
