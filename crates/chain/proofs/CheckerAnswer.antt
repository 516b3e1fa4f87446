-- What the checker answers, refused or accepted.
use Rattle.std.proofs.Common.{◌≡◌, ℕ, zero, suc, true, false, List, length, refl, ap, ◌∙◌, Bool, Result, Ok, Err}
use Rattle.orders.specs.declared.refusal.Refusal.{Refusal}
use Rattle.orders.specs.Answered.{refusal_number, number_given}
use Rattle.orders.proofs.Given.{refusal_numbered, given_number}
use Rattle.chain.specs.Refusals.{chain_refusal}
use Rattle.chain.specs.Chains.{sound_to}
use Rattle.chain.specs.CheckerAnswer.{checked_by, checked_given, checked_of}
use Rattle.chain.specs.CheckerAnswer as checked

module _ (table : List ℕ) (d q : ℕ) (trace : List ℕ) (t : ℕ) (slots marks amounts : List ℕ) (places : ℕ) where
  abbrev number : ℕ
  number = chain_refusal table d q trace t (length slots) (length marks) (length amounts)

  -- A refused checker gives its number, and any other whether the chain is sound.
  pub check_refused : (k : ℕ) → (k ≡ 0 → ⊥) → k ≡ number → checked.Refused k ≡ checked_of table d q trace t slots marks amounts places
  unfolding checked_of checked_by
  check_refused zero p e = absurd (p refl)
  check_refused (suc k) p e = rw (← e)

  pub check_given : {A : Type 0} (given : Result A Refusal) (answered : Result Bool Refusal) (refusal : Refusal)
      → number_given given ≡ number → given ≡ Err refusal → answered ≡ Err refusal → checked_given answered ≡ checked_of table d q trace t slots marks amounts places
  unfolding checked_given
  check_given given answered refusal numbered refused e =
      ap checked_given e ∙ check_refused (refusal_number refusal) (refusal_numbered refusal) (given_number given refusal number numbered refused)

  pub check_sound : number ≡ 0 → true ≡ sound_to table d q trace t slots marks amounts places → checked.Sound ≡ checked_of table d q trace t slots marks amounts places
  unfolding checked_of checked_by
  check_sound none e = rw (none, ← e) refl

  pub check_unsound : number ≡ 0 → false ≡ sound_to table d q trace t slots marks amounts places → checked.Unsound ≡ checked_of table d q trace t slots marks amounts places
  unfolding checked_of checked_by
  check_unsound none e = rw (none, ← e) refl

  pub check_told : number ≡ 0 → (sound : Bool) → sound ≡ sound_to table d q trace t slots marks amounts places
      → checked_given (Ok sound) ≡ checked_of table d q trace t slots marks amounts places
  unfolding checked_given
  check_told none true e = check_sound none e
  check_told none false e = check_unsound none e
