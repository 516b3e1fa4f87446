-- What the finder answers and leaves in the lent lists (document 02, request 2.8).
use Rattle.std.specs.Prelude.{◌≡◌, List, ℕ, zero, suc, length, Result, Ok, Err}
use Rattle.orders.specs.declared.refusal.Refusal.{Refusal}
use Rattle.orders.specs.Answered.{refusal_number, unless_refused}
use Rattle.chain.specs.Refusals.{chain_refusal}
use Rattle.chain.specs.Chains.{slots_to, marks_to, amounts_to, places_to}
use Rattle.found_links.specs.Written.{written}

-- what the finder is answered
pub data Found : Type 0 where
  Places : ℕ → Found
  Refused : ℕ → Found

-- the answer that a call gives
unfoldable pub found_given : Result ℕ Refusal → Found
found_given (Ok places) = Places places
found_given (Err refusal) = Refused (refusal_number refusal)

-- The number of places is told, or the number that refuses, 0 being none.
unfoldable pub found_by : ℕ → ℕ → Found
found_by zero places = Places places
found_by (suc n) places = Refused (suc n)

-- what the finder answers and leaves in the three lent lists: the found chain and the untouched rest, or each as it was
pub record Finding (table : List ℕ) (d q : ℕ) (trace : List ℕ) (t : ℕ) (slots marks amounts : List ℕ) (answer : Found) (slots' marks' amounts' : List ℕ) : Type 0 where
  pub answered : answer ≡ found_by (chain_refusal table d q trace t (length slots) (length marks) (length amounts)) (places_to table d q trace t)
  pub slotted : slots' ≡ unless_refused (chain_refusal table d q trace t (length slots) (length marks) (length amounts)) (written (slots_to table d q trace t) slots) slots
  pub marked : marks' ≡ unless_refused (chain_refusal table d q trace t (length slots) (length marks) (length amounts)) (written (marks_to table d q trace t) marks) marks
  pub counted : amounts' ≡ unless_refused (chain_refusal table d q trace t (length slots) (length marks) (length amounts)) (written (amounts_to table d q trace t) amounts) amounts
