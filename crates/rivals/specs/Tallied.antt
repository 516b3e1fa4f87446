-- Running totals of counts, kept for every slot.
use Rattle.std.specs.Prelude.{◌≡◌, List, ℕ, ◌≤◌, ◌<◌, length, get_or}
use Rattle.calculus.specs.Regulators.Trace.{sum_to}

-- the totals of the first n slots: place t holds the sum of the slots 1 to t
pub record Tallied (counts totals : List ℕ) (n : ℕ) : Type 0 where
  pub long : n < length totals
  pub sums : (t : ℕ) → t ≤ n → get_or totals t 0 ≡ sum_to counts t
