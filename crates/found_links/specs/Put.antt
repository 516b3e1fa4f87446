-- The found chain in the lent lists.
use Rattle.std.specs.Prelude.{◌≡◌, List, ℕ}
use Rattle.chain.specs.Chains.{slots_to, marks_to, amounts_to, places_to}
use Rattle.found_links.specs.Written.{written}

-- the chain to slot t, put at the lists' first places: `places` of them, and the rest is untouched
pub record Put (table : List ℕ) (d q : ℕ) (trace : List ℕ) (t : ℕ) (slots marks amounts : List ℕ) (places : ℕ) (slots' marks' amounts' : List ℕ) : Type 0 where
  pub placed : places ≡ places_to table d q trace t
  pub slotted : slots' ≡ written (slots_to table d q trace t) slots
  pub marked : marks' ≡ written (marks_to table d q trace t) marks
  pub counted : amounts' ≡ written (amounts_to table d q trace t) amounts
