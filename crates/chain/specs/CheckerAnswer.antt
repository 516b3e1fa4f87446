-- What the checker answers (document 02, request 2.8).
use Rattle.std.specs.Prelude.{ℕ, zero, suc, Bool, true, false, List, length, Result, Ok, Err}
use Rattle.chain.specs.Refusals.{chain_refusal}
use Rattle.chain.specs.Chains.{sound_to}
use Rattle.orders.specs.declared.refusal.Refusal.{Refusal}
use Rattle.orders.specs.Answered.{refusal_number}

-- what a check is answered
pub data Checked : Type 0 where
  Sound : Checked
  Unsound : Checked
  Refused : ℕ → Checked

-- the answer that a call gives
unfoldable pub checked_given : Result Bool Refusal → Checked
checked_given (Ok true) = Sound
checked_given (Ok false) = Unsound
checked_given (Err refusal) = Refused (refusal_number refusal)

-- An unsound chain is a plain no.
unfoldable pub checked_by : ℕ → Bool → Checked
checked_by zero true = Sound
checked_by zero false = Unsound
checked_by (suc n) sound = Refused (suc n)

-- what the checker answers
unfoldable pub checked_of : List ℕ → ℕ → ℕ → List ℕ → ℕ → List ℕ → List ℕ → List ℕ → ℕ → Checked
checked_of table d q trace t slots marks amounts places =
    checked_by (chain_refusal table d q trace t (length slots) (length marks) (length amounts)) (sound_to table d q trace t slots marks amounts places)
