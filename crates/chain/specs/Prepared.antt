-- The rows of a table and a trace, from which the links to slot t are checked.
use Rattle.std.specs.Prelude.{◌≡◌, ℕ, ◌+◌, ◌≤◌, List, slice_index}
use Rattle.calculus.specs.Regulators.Clipper.{arrived}
use Rattle.calculus.specs.Regulators.Trace.{arrivals}
use Rattle.calculus.specs.Regulators.Rows.{envelope_of}
use Rattle.chain_calculus.specs.ChainFound.{number_of}
use Rattle.refusals.specs.Limits.{delay_limit, set_up_refusal}
use Rattle.chain.specs.Links.{at_window}

-- what the links of an accepted table and trace are checked from, to slot t: f, as far as the delay limit reaches, and A
pub record Checkable (table : List ℕ) (d q : ℕ) (trace : List ℕ) (t : ℕ) (windows totals : List ℕ) : Type 0 where
  pub set_up : set_up_refusal table d q ≡ 0
  pub short : t ≤ 4096
  pub windowed : (w : ℕ) → w ≤ t + number_of (delay_limit d) → at_window windows w ≡ envelope_of table w
  pub arrives : (s : ℕ) → s ≤ t → slice_index totals s ≡ arrived (arrivals trace) s
