-- A chain's answers across the boundary: the number is the one that applies, 0 for none; places and a yes are told only without one, and
-- mean what the finder and the checker mean by them.
use mathlib.Core.Path.{◌≡◌, refl, sym, ◌∙◌, subst}
use mathlib.Core.Bool.{Bool, true, false}
use mathlib.Core.List.{List}
use Prim.Native.Nat.{ℕ, zero, suc}
use native.Mathlib.Omega.{arith}
use lib.ListN.{length}
use Rattle.chain.specs.Refusals.{chain_refusal}
use Rattle.chain.specs.Chains.{places_to}
use Rattle.found_links.specs.FinderAnswer.{found_by, Finding}
use Rattle.chain.specs.CheckerAnswer.{checked_by, checked_of}
use Rattle.found_links.specs.FinderAnswer.{Found}
use Rattle.found_links.specs.FinderAnswer as found
use Rattle.chain.specs.CheckerAnswer.{Checked}
use Rattle.chain.specs.CheckerAnswer as checked
use Rattle.c_answers.specs.declared.answer.Chain.{Chain}
use Rattle.c_answers.specs.declared.answer.ChainVerdict.{ChainVerdict}
use Rattle.c_answers.specs.Numbered.{chain_of, chain_verdict_of, FoundByNumber}

-- The number of either answer is the one that applies.
number_found : (k n : ℕ) → (chain_of (found_by k n)).number ≡ k
unfolding chain_of found_by
number_found zero n = refl
number_found (suc k) n = refl

number_checked : (k : ℕ) (sound : Bool) → (chain_verdict_of (checked_by k sound)).number ≡ k
unfolding chain_verdict_of checked_by
number_checked zero true = refl
number_checked zero false = refl
number_checked (suc k) sound = refl

places_found : (k n : ℕ) → k ≡ 0 → found_by k n ≡ found.Places (chain_of (found_by k n)).places
unfolding chain_of found_by
places_found zero n e = refl
places_found (suc k) n e = absurd (omega arith)

sound_checked : (c : Checked) → (chain_verdict_of c).sound ≡ 1 → c ≡ checked.Sound
unfolding chain_verdict_of
sound_checked checked.Sound e = refl
sound_checked checked.Unsound e = absurd (omega arith)
sound_checked (checked.Refused n) e = absurd (omega arith)

module _ (table : List ℕ) (d q : ℕ) (trace : List ℕ) (t : ℕ) (slots marks amounts : List ℕ) where
  -- The finder: what theorems say of told places holds where the number is 0.
  pub found_number : (answer : Chain) (slots' marks' amounts' : List ℕ) → FoundByNumber table d q trace t slots marks amounts answer slots' marks' amounts'
      → answer.number ≡ chain_refusal table d q trace t (length slots) (length marks) (length amounts)
  found_number answer slots' marks' amounts' by = rw by.answers (number_found _ _)

  pub found_told : (answer : Chain) (slots' marks' amounts' : List ℕ) → FoundByNumber table d q trace t slots marks amounts answer slots' marks' amounts'
      → answer.number ≡ 0 → Finding table d q trace t slots marks amounts (found.Places answer.places) slots' marks' amounts'
  found_told answer slots' marks' amounts' by none =
      let k : ℕ = chain_refusal table d q trace t (length slots) (length marks) (length amounts) in
      let same : found_by k (places_to table d q trace t) ≡ found.Places answer.places =
      rw by.answers (places_found k (places_to table d q trace t) (sym (found_number answer slots' marks' amounts' by) ∙ none)) in
      subst (λ (f : Found). Finding table d q trace t slots marks amounts f slots' marks' amounts') same by.finds

  -- The checker: 1 is a yes, and nothing else is.
  module _ (places : ℕ) (answer : ChainVerdict) (by : answer ≡ chain_verdict_of (checked_of table d q trace t slots marks amounts places)) where
    pub checked-number : answer.number ≡ chain_refusal table d q trace t (length slots) (length marks) (length amounts)
    unfolding checked_of
    checked-number = rw by (number_checked _ _)

    pub told_sound : answer.sound ≡ 1 → checked_of table d q trace t slots marks amounts places ≡ checked.Sound
    told_sound one = sound_checked _ (rw by at one)

    pub sound_told : checked_of table d q trace t slots marks amounts places ≡ checked.Sound → answer.sound ≡ 1
    unfolding chain_verdict_of
    sound_told told = rw (by, told) refl
