-- The checker's answer in document 02's words: it is yes exactly for a sound chain and a plain no for any other, and places beyond their
-- number are not looked at.
use Rattle.std.proofs.Common.{◌≡◌, ℕ, zero, suc, ◌<◌, Bool, true, false, T, List, length, get_or, refl}
use Rattle.calculus.proofs.Numbers.Distinct.{zero_one}
use Rattle.calculus.specs.Regulators.Trace.{arrivals}
use Rattle.calculus.specs.Regulators.Rows.{envelope_of}
use Rattle.chain_calculus.specs.Chain.{Chain}
use Rattle.chain_calculus.proofs.ChainChecker.{accepted_chain, chain-accepted, sound_beyond}
use Rattle.refusals.specs.Limits.{delay_limit, buffer_limit}
use Rattle.chain.specs.Refusals.{chain_refusal}
use Rattle.chain.specs.Chains.{sound_to}
use Rattle.chain.specs.CheckerAnswer.{checked_by, checked_of}
use Rattle.chain.specs.CheckerAnswer as checked

pub checked_sound : (k : ℕ) (sound : Bool) → checked_by k sound ≡ checked.Sound → (k ≡ 0) × T sound
unfolding checked_by
checked_sound zero true e = (refl, tt)
checked_sound zero false e = absurd (zero_one cc)
checked_sound (suc k) sound e = absurd (zero_one cc)

checked_unsound : (k : ℕ) (sound : Bool) → checked_by k sound ≡ checked.Unsound → (k ≡ 0) × (T sound → ⊥)
unfolding checked_by
checked_unsound zero true e = absurd (zero_one cc)
checked_unsound zero false e = (refl, λ h. h)
checked_unsound (suc k) sound e = absurd (zero_one cc)

yes : (sound : Bool) → T sound → checked_by 0 sound ≡ checked.Sound
unfolding checked_by
yes true h = refl
yes false h = absurd h

no : (sound : Bool) → (T sound → ⊥) → checked_by 0 sound ≡ checked.Unsound
unfolding checked_by
no true h = absurd (h tt)
no false h = refl

module _ (table : List ℕ) (d q : ℕ) (trace : List ℕ) (t : ℕ) (slots marks amounts : List ℕ) (places : ℕ) where
  abbrev number : ℕ
  number = chain_refusal table d q trace t (length slots) (length marks) (length amounts)

  abbrev Sound : Type 0
  Sound = Chain (envelope_of table) (delay_limit d) (buffer_limit q) (arrivals trace) t slots marks amounts places

  read : T (sound_to table d q trace t slots marks amounts places) → Sound
  read = accepted_chain (envelope_of table) (delay_limit d) (buffer_limit q) (arrivals trace) slots marks amounts t places

  made : Sound → T (sound_to table d q trace t slots marks amounts places)
  made = chain-accepted (envelope_of table) (delay_limit d) (buffer_limit q) (arrivals trace) slots marks amounts t places

  -- The first number that applies is answered, where one does ..
  pub answer_refused : (k : ℕ) → chain_refusal table d q trace t (length slots) (length marks) (length amounts) ≡ suc k
      → checked_of table d q trace t slots marks amounts places ≡ checked.Refused (suc k)
  unfolding checked_of checked_by
  answer_refused k e = rw e refl

  -- .. and else yes for a sound chain ..
  pub answer_sound : chain_refusal table d q trace t (length slots) (length marks) (length amounts) ≡ 0
      → Chain (envelope_of table) (delay_limit d) (buffer_limit q) (arrivals trace) t slots marks amounts places
      → checked_of table d q trace t slots marks amounts places ≡ checked.Sound
  unfolding checked_of
  answer_sound none sound = rw none (yes _ (made sound))

  pub sound-answer : checked_of table d q trace t slots marks amounts places ≡ checked.Sound
      → (chain_refusal table d q trace t (length slots) (length marks) (length amounts) ≡ 0)
      × Chain (envelope_of table) (delay_limit d) (buffer_limit q) (arrivals trace) t slots marks amounts places
  unfolding checked_of
  sound-answer e = let (none, sound) = checked_sound _ _ e in (none, read sound)

  -- .. and no for any other.
  pub answer_unsound : chain_refusal table d q trace t (length slots) (length marks) (length amounts) ≡ 0
      → (Chain (envelope_of table) (delay_limit d) (buffer_limit q) (arrivals trace) t slots marks amounts places → ⊥)
      → checked_of table d q trace t slots marks amounts places ≡ checked.Unsound
  unfolding checked_of
  answer_unsound none unsound = rw none (no _ (λ h. unsound (read h)))

  pub unsound-answer : checked_of table d q trace t slots marks amounts places ≡ checked.Unsound
      → (chain_refusal table d q trace t (length slots) (length marks) (length amounts) ≡ 0)
      × (Chain (envelope_of table) (delay_limit d) (buffer_limit q) (arrivals trace) t slots marks amounts places → ⊥)
  unfolding checked_of
  unsound-answer e = let (none, unsound) = checked_unsound _ _ e in (none, λ sound. unsound (made sound))

  -- Lists of the same lengths that agree up to the number of places get the same answer.
  pub answer_beyond : (slots₂ marks₂ amounts₂ : List ℕ) → length slots ≡ length slots₂ → length marks ≡ length marks₂ → length amounts ≡ length amounts₂
      → ((k : ℕ) → k < places → (get_or slots k 0 ≡ get_or slots₂ k 0) × (get_or marks k 0 ≡ get_or marks₂ k 0) × (get_or amounts k 0 ≡ get_or amounts₂ k 0))
      → checked_of table d q trace t slots marks amounts places ≡ checked_of table d q trace t slots₂ marks₂ amounts₂ places
  unfolding checked_of
  answer_beyond slots₂ marks₂ amounts₂ ls lm lv same =
      rw (sound_beyond (envelope_of table) (delay_limit d) (buffer_limit q) (arrivals trace) t slots marks amounts slots₂ marks₂ amounts₂ places ls same, ls, lm, lv) refl
