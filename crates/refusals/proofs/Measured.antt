-- What lengths that get no number are known to be, and the other way round.
use mathlib.Core.Path.{◌≡◌, refl}
use mathlib.Core.Bool.{not}
use mathlib.Core.List.{List, [], ◌∷◌}
use Prim.Native.Nat.{ℕ, suc, ◌≤◌}
use lib.ListN.{get_or}
use lib.Dec.{ltb, eqb}
use borrow.Author.Tests.{ltb-false, le-ltb, eqb-true, eq-eqb, not-false}
use Rattle.orders.specs.Refusal.{◌when◌, ◌or_else◌}
use Rattle.orders.proofs.Refusals.{when_none}
use Rattle.refusals.specs.Lengths.{length_refusal, short_refusal, lists_refusal, counts_refusal}
use Rattle.refusals.specs.Limits.{arrivals_refusal}

-- A list that gets no 11 is as long as is asked.
pub list_same : (slots list : ℕ) → lists_refusal slots list ≡ 0 → list ≡ slots
unfolding lists_refusal
list_same slots list e = eqb-true list slots (not-false (eqb list slots) (when_none 10 (not (eqb list slots)) e))

pub same_list : (slots list : ℕ) → list ≡ slots → lists_refusal slots list ≡ 0
unfolding lists_refusal ◌when◌
same_list slots list e = rw (eq-eqb list slots e)

-- A trace that gets no 10 has at most 4,096 slots, and one that gets no 24 at most five.
pub length_most : (slots : ℕ) → length_refusal slots ≡ 0 → slots ≤ 4096
unfolding length_refusal
length_most slots e = ltb-false 4096 slots (when_none 9 (ltb 4096 slots) e)

pub short_most : (slots : ℕ) → short_refusal slots ≡ 0 → slots ≤ 5
unfolding short_refusal
short_most slots e = ltb-false 5 slots (when_none 23 (ltb 5 slots) e)

pub most_short : (slots : ℕ) → slots ≤ 5 → short_refusal slots ≡ 0
unfolding short_refusal ◌when◌
most_short slots p = rw (le-ltb 5 slots p)

pub most-length : (slots : ℕ) → slots ≤ 4096 → length_refusal slots ≡ 0
unfolding length_refusal ◌when◌
most-length slots p = rw (le-ltb 4096 slots p)

-- Counts of at most 1,000,000 get no number.
pub counts_none : (trace : List ℕ) → ((k : ℕ) → get_or trace k 0 ≤ 1000000) → counts_refusal trace ≡ 0
unfolding counts_refusal arrivals_refusal ◌when◌ ◌or_else◌
counts_none [] few = refl
counts_none (n ∷ trace) few = rw (le-ltb 1000000 n (few 0)) (counts_none trace (λ k. few (suc k)))
