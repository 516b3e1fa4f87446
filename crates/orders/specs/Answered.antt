-- What a number stands for: the verdict that is answered, and a lent list afterwards (document 01: "a refused run writes to none of the lists").
use Rattle.std.specs.Prelude.{◌≡◌, List, ℕ, zero, suc, Result, Ok, Err}
use Rattle.orders.specs.Verdict.{Verdict, Accepted, Refused}
use Rattle.orders.specs.declared.refusal.Refusal.{Refusal}
use Rattle.orders.specs.declared.refusal.Refusal.TheVariants as refusal

-- the number of each refusal (document 01, "Refused, by place", and document 02)
unfoldable pub refusal_number : Refusal → ℕ
refusal_number refusal.LastWindow = 1
refusal_number refusal.FirstEntry = 2
refusal_number refusal.EntryTooLarge = 3
refusal_number refusal.EntryFalls = 4
refusal_number refusal.WindowTooFar = 5
refusal_number refusal.DelayLimit = 6
refusal_number refusal.BufferLimit = 7
refusal_number refusal.TooManyPackets = 8
refusal_number refusal.NoSlotLeft = 9
refusal_number refusal.TooManySlots = 10
refusal_number refusal.ListLength = 11
refusal_number refusal.FileTooShort = 12
refusal_number refusal.FileLength = 13
refusal_number refusal.BurstSlot = 14
refusal_number refusal.BucketCount = 15
refusal_number refusal.RateOrBurst = 16
refusal_number refusal.StageCount = 17
refusal_number refusal.SlotBeyondTrace = 18
refusal_number refusal.BelowDiagonal = 19
refusal_number refusal.BeyondSquare = 20
refusal_number refusal.PortSize = 21
refusal_number refusal.Deadline = 22
refusal_number refusal.NoLimit = 23
refusal_number refusal.NotShort = 24

-- the number that a call gives, 0 where it refuses nothing
unfoldable pub number_given : {A : Type 0} → Result A Refusal → ℕ
number_given (Ok _) = 0
number_given (Err refusal) = refusal_number refusal

-- the verdict that a call gives
unfoldable pub verdict_given : Result (Unit {0}) Refusal → Verdict
verdict_given (Ok _) = Accepted
verdict_given (Err refusal) = Refused (refusal_number refusal)

-- the verdict that a number stands for, 0 being none
unfoldable pub verdict_of : ℕ → Verdict
verdict_of zero = Accepted
verdict_of (suc n) = Refused (suc n)

-- the number of a verdict
unfoldable pub verdict_number : Verdict → ℕ
verdict_number Accepted = 0
verdict_number (Refused n) = n

-- what a call leaves of a list or a regulator: what it made of it, or, where a number refuses, what was there
unfoldable pub unless_refused {ℓ} : {A : Type ℓ} → ℕ → A → A → A
unless_refused zero accepted refused = accepted
unless_refused (suc k) accepted refused = refused

-- What a call that fills three lists of admitted, dropped and departed packets answers, and leaves in them: the answer that its number
-- stands for, and each list filled with its row, or as it was where a number refuses.
pub record ListsFilled {A : Type 0} (answer : ℕ → A) (number : ℕ) (admits-row drops-row departs-row ins drops outs : List ℕ) (given : A) (ins' drops' outs' : List ℕ)
    : Type 0 where
  pub answered : given ≡ answer number
  pub admits : ins' ≡ unless_refused number admits-row ins
  pub dropped : drops' ≡ unless_refused number drops-row drops
  pub departs : outs' ≡ unless_refused number departs-row outs

-- What is answered by number: the number that refuses, 0 for none, and what is said of the verdict that it stands for.
pub record ByNumber (refusal number : ℕ) (Said : Verdict → Type 0) : Type 0 where
  pub numbered : number ≡ refusal
  pub ran : Said (verdict_of number)
