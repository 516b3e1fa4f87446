-- What the finder answers and leaves, refused or accepted.
use mathlib.Core.Path.{◌≡◌, refl}
use Rattle.std.proofs.Common.{Result, Ok, Err}
use mathlib.Core.List.{List}
use Prim.Native.Nat.{ℕ, zero, suc}
use lib.ListN.{length}
use Rattle.orders.specs.declared.refusal.Refusal.{Refusal}
use Rattle.orders.specs.Answered.{refusal_number, number_given, unless_refused}
use Rattle.orders.proofs.Given.{refusal_numbered, given_number}
use Rattle.chain.specs.Refusals.{chain_refusal}
use Rattle.found_links.specs.Put.{Put}
use Rattle.found_links.specs.FinderAnswer.{found_by, found_given, Finding}
use Rattle.found_links.specs.FinderAnswer as found

module _ (table : List ℕ) (d q : ℕ) (trace : List ℕ) (t : ℕ) (slots marks amounts : List ℕ) where
  abbrev number : ℕ
  number = chain_refusal table d q trace t (length slots) (length marks) (length amounts)

  -- A refused finder gives its number, and the lists are as they were.
  refused_by : (k : ℕ) → (k ≡ 0 → ⊥) → k ≡ number → Finding table d q trace t slots marks amounts (found.Refused k) slots marks amounts
  unfolding found_by unless_refused
  refused_by zero p e = absurd (p refl)
  refused_by (suc k) p e = record { answered = rw (← e); slotted = rw (← e); marked = rw (← e); counted = rw (← e) }

  pub find_refused : {A : Type 0} (given : Result A Refusal) (answer : Result ℕ Refusal) (r : Refusal)
      → number_given given ≡ number → given ≡ Err r → answer ≡ Err r → Finding table d q trace t slots marks amounts (found_given answer) slots marks amounts
  unfolding found_given
  find_refused given answer r numbered refused answered =
      rw answered (refused_by (refusal_number r) (refusal_numbered r) (given_number given r number numbered refused))

  -- Any other tells the places, and has put the chain.
  pub find_put : number ≡ 0 → (places : ℕ) (slots' marks' amounts' : List ℕ) → Put table d q trace t slots marks amounts places slots' marks' amounts'
      → Finding table d q trace t slots marks amounts (found_given (Ok places)) slots' marks' amounts'
  unfolding found_by found_given unless_refused
  find_put none places slots' marks' amounts' put =
      record { answered = rw (none, put.placed) refl; slotted = rw none put.slotted; marked = rw none put.marked; counted = rw none put.counted }
