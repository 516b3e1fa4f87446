-- The numbers that calls give.
use Rattle.std.proofs.Common.{◌≡◌, ℕ, zero, suc, ◌-◌, List, [], ◌∷◌, slice_index_or, refl, sym, ap, ◌∙◌, Result, Ok, Err, IsOk, is_ok, is_err, Bool, true, false}
use native.Mathlib.Omega.{arith}
use Rattle.orders.specs.declared.refusal.Refusal.{Refusal}
use Rattle.orders.specs.declared.refusal.Refusal.TheVariants as refusal
use Rattle.orders.specs.Refusal.{◌or_else◌}
use Rattle.orders.specs.Answered.{refusal_number, number_given, verdict_given, verdict_of, verdict_number, ListsFilled}
use Rattle.orders.specs.Verdict.{Accepted}
use Rattle.orders.proofs.Answered.{refused-answer, accepted-answer, filled_refused}

true_false : true ≡ false → ⊥
true_false e = cc

-- A refusal has a number.
pub refusal_numbered : (r : Refusal) → (refusal_number r ≡ 0 → ⊥)
unfolding refusal_number
refusal_numbered refusal.LastWindow e = omega arith
refusal_numbered refusal.FirstEntry e = omega arith
refusal_numbered refusal.EntryTooLarge e = omega arith
refusal_numbered refusal.EntryFalls e = omega arith
refusal_numbered refusal.WindowTooFar e = omega arith
refusal_numbered refusal.DelayLimit e = omega arith
refusal_numbered refusal.BufferLimit e = omega arith
refusal_numbered refusal.TooManyPackets e = omega arith
refusal_numbered refusal.NoSlotLeft e = omega arith
refusal_numbered refusal.TooManySlots e = omega arith
refusal_numbered refusal.ListLength e = omega arith
refusal_numbered refusal.FileTooShort e = omega arith
refusal_numbered refusal.FileLength e = omega arith
refusal_numbered refusal.BurstSlot e = omega arith
refusal_numbered refusal.BucketCount e = omega arith
refusal_numbered refusal.RateOrBurst e = omega arith
refusal_numbered refusal.StageCount e = omega arith
refusal_numbered refusal.SlotBeyondTrace e = omega arith
refusal_numbered refusal.BelowDiagonal e = omega arith
refusal_numbered refusal.BeyondSquare e = omega arith
refusal_numbered refusal.PortSize e = omega arith
refusal_numbered refusal.Deadline e = omega arith
refusal_numbered refusal.NoLimit e = omega arith
refusal_numbered refusal.NotShort e = omega arith

-- The number of a refusal is the first that applies.
pub first_number : (r : Refusal) (first second : ℕ) → refusal_number r ≡ first → refusal_number r ≡ first or_else second
unfolding ◌or_else◌
first_number r zero second e = absurd (refusal_numbered r e)
first_number r (suc first) second e = e

-- What is refused first is answered.
pub refused_first : {A : Type 0} {B : Type 0} (given : Result A Refusal) (answer : Result B Refusal) (r : Refusal) (first second : ℕ)
    → number_given given ≡ first → given ≡ Err r → answer ≡ Err r → number_given answer ≡ first or_else second
unfolding number_given
refused_first given answer r first second numbered refused answered =
    ap number_given answered ∙ first_number r first second (sym (ap number_given refused) ∙ numbered)

-- Where the first refuses nothing, the second is answered.
pub second_number : (first second n : ℕ) → 0 ≡ first → n ≡ second → n ≡ first or_else second
unfolding ◌or_else◌
second_number zero second n none e = e
second_number (suc first) second n none e = absurd (omega (arith, none))

pub passed_first : {A : Type 0} (given : Result A Refusal) (a : A) (first second n : ℕ)
    → number_given given ≡ first → given ≡ Ok a → n ≡ second → n ≡ first or_else second
unfolding number_given
passed_first given a first second n numbered passed e = second_number first second n (sym (ap number_given passed) ∙ numbered) e

-- A call that refuses gives a number that is not 0, and one that refuses nothing gives 0.
pub given_number : {A : Type 0} (given : Result A Refusal) (r : Refusal) (number : ℕ) → number_given given ≡ number → given ≡ Err r → refusal_number r ≡ number
unfolding number_given
given_number given r number numbered refused = sym (ap number_given refused) ∙ numbered

pub given_none : {A : Type 0} (given : Result A Refusal) (a : A) (number : ℕ) → number_given given ≡ number → given ≡ Ok a → number ≡ 0
unfolding number_given
given_none given a number numbered passed = sym numbered ∙ ap number_given passed

-- A refused call's verdict is that of its number.
pub verdict_refused : {A : Type 0} (given : Result A Refusal) (answer : Result (Unit {0}) Refusal) (r : Refusal) (number : ℕ)
    → number_given given ≡ number → given ≡ Err r → answer ≡ Err r → verdict_given answer ≡ verdict_of number
unfolding verdict_given
verdict_refused given answer r number numbered refused answered =
    ap verdict_given answered ∙ refused-answer (refusal_number r) number (refusal_numbered r) (given_number given r number numbered refused)

-- A call whose verdict is yes refuses nothing.
pub accepted_ok : (given : Result (Unit {0}) Refusal) → verdict_given given ≡ Accepted → IsOk given
unfolding verdict_given verdict_number
accepted_ok (Ok _) e = refl
accepted_ok (Err refusal) e = absurd (refusal_numbered refusal (ap verdict_number e))

-- A refused call leaves three lists that it was lent as they were.
pub lists_refused : {A : Type 0} (admits-row drops-row departs-row ins drops outs : List ℕ) (given : Result A Refusal) (answer : Result (Unit {0}) Refusal) (r : Refusal) (number : ℕ)
    → number_given given ≡ number → given ≡ Err r → answer ≡ Err r
    → ListsFilled verdict_of number admits-row drops-row departs-row ins drops outs (verdict_given answer) ins drops outs
unfolding verdict_given
lists_refused admits-row drops-row departs-row ins drops outs given answer r number numbered refused answered =
    rw (ap verdict_given answered)
    (filled_refused number admits-row drops-row departs-row ins drops outs (refusal_number r) (refusal_numbered r) (given_number given r number numbered refused))

-- So does one whose verdict is that of no number.
pub none_ok : (given : Result (Unit {0}) Refusal) (number : ℕ) → verdict_given given ≡ verdict_of number → number ≡ 0 → IsOk given
none_ok given number answered none = accepted_ok given (answered ∙ sym (accepted-answer number none))

-- Whether a call refuses tells whether its number is 0.
pub number_of_ok : {A : Type 0} (given : Result A Refusal) (number : ℕ) → number_given given ≡ number → is_err given ≡ false → number ≡ 0
unfolding number_given
number_of_ok (Ok _) number numbered ok = sym numbered
number_of_ok (Err refusal) number numbered ok = absurd (true_false ok)

pub number_of_err : {A : Type 0} (given : Result A Refusal) (number : ℕ) → number_given given ≡ number → is_err given ≡ true → (number ≡ 0 → ⊥)
unfolding number_given
number_of_err (Ok _) number numbered err none = absurd (true_false (sym err))
number_of_err (Err refusal) number numbered err none = refusal_numbered refusal (numbered ∙ none)

pub number_of_is_ok : {A : Type 0} (given : Result A Refusal) (number : ℕ) → number_given given ≡ number → IsOk given → number ≡ 0
unfolding number_given
number_of_is_ok (Ok _) number numbered ok = sym numbered
number_of_is_ok (Err refusal) number numbered ok = absurd (true_false (sym ok))

pub number_of_not_ok : {A : Type 0} (given : Result A Refusal) (number : ℕ) → number_given given ≡ number → is_ok given ≡ false → (number ≡ 0 → ⊥)
unfolding number_given
number_of_not_ok (Ok _) number numbered err none = absurd (true_false err)
number_of_not_ok (Err refusal) number numbered err none = refusal_numbered refusal (numbered ∙ none)

-- The number that a call gives is its verdict's.
pub number_verdict : (given : Result (Unit {0}) Refusal) → number_given given ≡ verdict_number (verdict_given given)
unfolding number_given verdict_given verdict_number
number_verdict (Ok _) = refl
number_verdict (Err refusal) = refl

-- All refusals, by number.
all_refusals : List Refusal
all_refusals =
    refusal.LastWindow
    ∷ refusal.FirstEntry
    ∷ refusal.EntryTooLarge
    ∷ refusal.EntryFalls
    ∷ refusal.WindowTooFar
    ∷ refusal.DelayLimit
    ∷ refusal.BufferLimit
    ∷ refusal.TooManyPackets
    ∷ refusal.NoSlotLeft
    ∷ refusal.TooManySlots
    ∷ refusal.ListLength
    ∷ refusal.FileTooShort
    ∷ refusal.FileLength
    ∷ refusal.BurstSlot
    ∷ refusal.BucketCount
    ∷ refusal.RateOrBurst
    ∷ refusal.StageCount
    ∷ refusal.SlotBeyondTrace
    ∷ refusal.BelowDiagonal
    ∷ refusal.BeyondSquare
    ∷ refusal.PortSize
    ∷ refusal.Deadline
    ∷ refusal.NoLimit
    ∷ refusal.NotShort
    ∷ []

-- The refusal with a number; where there is none, the last.
refusal_at : ℕ → Refusal
refusal_at n = slice_index_or all_refusals (n - 1) refusal.NotShort

number_told : (r : Refusal) → refusal_at (refusal_number r) ≡ r
unfolding refusal_number refusal_at all_refusals
number_told refusal.LastWindow = refl
number_told refusal.FirstEntry = refl
number_told refusal.EntryTooLarge = refl
number_told refusal.EntryFalls = refl
number_told refusal.WindowTooFar = refl
number_told refusal.DelayLimit = refl
number_told refusal.BufferLimit = refl
number_told refusal.TooManyPackets = refl
number_told refusal.NoSlotLeft = refl
number_told refusal.TooManySlots = refl
number_told refusal.ListLength = refl
number_told refusal.FileTooShort = refl
number_told refusal.FileLength = refl
number_told refusal.BurstSlot = refl
number_told refusal.BucketCount = refl
number_told refusal.RateOrBurst = refl
number_told refusal.StageCount = refl
number_told refusal.SlotBeyondTrace = refl
number_told refusal.BelowDiagonal = refl
number_told refusal.BeyondSquare = refl
number_told refusal.PortSize = refl
number_told refusal.Deadline = refl
number_told refusal.NoLimit = refl
number_told refusal.NotShort = refl

-- Its number tells which refusal it is.
pub number_tells : (r s : Refusal) → refusal_number r ≡ refusal_number s → r ≡ s
number_tells r s e = sym (number_told r) ∙ ap refusal_at e ∙ number_told s
