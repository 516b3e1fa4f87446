-- Laws of judging a file's bursts one by one: their slots, and their counts.
use mathlib.Core.Path.{◌≡◌, refl, sym, ◌∙◌}
use mathlib.Core.Bool.{Bool, true, false, ◌||◌}
use mathlib.Core.List.{List, ◌∷◌}
use Prim.Native.Nat.{ℕ, ◌+◌, ◌≤◌, ◌<◌}
use native.Mathlib.Omega.{arith}
use native.Mathlib.Numerals.{add-one}
use lib.ListN.{length, get_or, drop, drop_of_length-le}
use lib.Seq.{drop-cons}
use lib.Dec.{ltb, leb, eqb}
use borrow.Author.Tests.{lt-ltb, le-ltb, le-leb, lt-leb, ne_eqb}
use Rattle.calculus.proofs.Numbers.Lists.{length-list_of, list_of_at}
use Rattle.orders.specs.Refusal.{◌when◌, ◌or_else◌}
use Rattle.refusals.specs.Limits.{arrivals_refusal}
use Rattle.refusals.specs.Lengths.{counts_refusal}
use Rattle.refusals.proofs.TraceCounts.{counts_done}
use Rattle.stream.specs.Format.{number_at, last, slots, bursts, burst_slots, burst_counts}
use Rattle.stream.specs.Refusals.{bursts_refusal}

or_true : (p : Bool) → (p || true) ≡ true
or_true true = refl
or_true false = refl

-- A slot is at fault where it is not above the one before or above T, and not otherwise.
fault_low : (most before slot : ℕ) → slot ≤ before → (eqb slot 0 || ltb most slot || leb slot before) ≡ true
fault_low most before slot p = rw (le-leb slot before p, or_true)

fault_high : (most before slot : ℕ) → most < slot → (eqb slot 0 || ltb most slot || leb slot before) ≡ true
fault_high most before slot p = rw (lt-ltb most slot p, or_true)

no_fault : (most before slot : ℕ) → before < slot → slot ≤ most → (eqb slot 0 || ltb most slot || leb slot before) ≡ false
no_fault most before slot p q = rw (ne_eqb slot 0 (λ e. omega arith), le-ltb most slot q, lt-leb slot before p)

-- A list from a place on begins with the number there.
drop_here : (l : List ℕ) (k x : ℕ) → k < length l → get_or l k 0 ≡ x → drop k l ≡ x ∷ drop (k + 1) l
drop_here l k x p e = rw (drop-cons l k 0 p, e, add-one k)

module _ (file : List ℕ) where
  pub length-slots : length (burst_slots file) ≡ bursts file
  unfolding burst_slots
  length-slots = length-list_of _ (bursts file)

  pub length_counts : length (burst_counts file) ≡ bursts file
  unfolding burst_counts
  length_counts = length-list_of _ (bursts file)

  pub slot_at : (k : ℕ) → k < bursts file → get_or (burst_slots file) k 0 ≡ number_at file (6 + last file + k)
  unfolding burst_slots
  slot_at k p = list_of_at _ (bursts file) k p

  pub count_at : (k : ℕ) → k < bursts file → get_or (burst_counts file) k 0 ≡ number_at file (6 + last file + bursts file + k)
  unfolding burst_counts
  count_at k p = list_of_at _ (bursts file) k p

module _ (file : List ℕ) (before k : ℕ) where
  -- Past the last burst nothing is wrong.
  pub slots_done : bursts file ≤ k → bursts_refusal (slots file) before (drop k (burst_slots file)) ≡ 0
  unfolding bursts_refusal
  slots_done p = rw (drop_of_length-le (burst_slots file) {i = k} (omega (arith, length-slots file)))

  module _ (slot : ℕ) (inside : k < bursts file) (read : slot ≡ number_at file (6 + last file + k)) where
    here : drop k (burst_slots file) ≡ slot ∷ drop (k + 1) (burst_slots file)
    here = drop_here (burst_slots file) k slot (omega (arith, length-slots file)) (slot_at file k inside ∙ sym read)

    -- A slot at fault gets 14.
    pub slots_low : slot ≤ before → bursts_refusal (slots file) before (drop k (burst_slots file)) ≡ 14
    unfolding bursts_refusal ◌when◌ ◌or_else◌
    slots_low p = rw here (rw (fault_low (slots file) before slot p))

    pub slots_high : slots file < slot → bursts_refusal (slots file) before (drop k (burst_slots file)) ≡ 14
    unfolding bursts_refusal ◌when◌ ◌or_else◌
    slots_high p = rw here (rw (fault_high (slots file) before slot p))

    -- Any other leaves the judgment to the bursts after it.
    pub slots_fine : before < slot → slot ≤ slots file
        → bursts_refusal (slots file) before (drop k (burst_slots file)) ≡ bursts_refusal (slots file) slot (drop (k + 1) (burst_slots file))
    unfolding bursts_refusal ◌when◌ ◌or_else◌
    slots_fine p q = rw here (rw (no_fault (slots file) before slot p q))

module _ (file : List ℕ) (k : ℕ) where
  -- Past the last burst no count is wrong.
  pub file_counts_done : bursts file ≤ k → counts_refusal (drop k (burst_counts file)) ≡ 0
  file_counts_done p = counts_done (burst_counts file) k (omega (arith, length_counts file))

  module _ (count : ℕ) (inside : k < bursts file) (read : count ≡ number_at file (6 + last file + bursts file + k)) where
    -- The counts from one on get its number first.
    pub file_counts_here : counts_refusal (drop k (burst_counts file)) ≡ arrivals_refusal count or_else counts_refusal (drop (k + 1) (burst_counts file))
    unfolding counts_refusal
    file_counts_here = rw (drop_here (burst_counts file) k count (omega (arith, length_counts file)) (count_at file k inside ∙ sym read))

    -- A count that gets no number leaves the judgment to the bursts after it.
    pub file_counts_fine : arrivals_refusal count ≡ 0 → counts_refusal (drop k (burst_counts file)) ≡ counts_refusal (drop (k + 1) (burst_counts file))
    unfolding ◌or_else◌
    file_counts_fine e = file_counts_here ∙ rw e
