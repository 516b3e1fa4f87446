-- What a slot call is answered (document 01, "One slot"): its record, or the number that refuses it.
use Rattle.std.specs.Prelude.{ℕ, zero, suc, Result, Ok, Err}
use Rattle.orders.specs.declared.refusal.Refusal.{Refusal}
use Rattle.orders.specs.Answered.{refusal_number}
use Rattle.live_step.specs.declared.record.SlotRecord.{SlotRecord}

pub data SlotAnswer : Type 0 where
  Counted : SlotRecord → SlotAnswer
  Refused : ℕ → SlotAnswer

unfoldable pub answer_by : ℕ → SlotRecord → SlotAnswer
answer_by zero given = Counted given
answer_by (suc k) given = Refused (suc k)

-- the answer that a call gives
unfoldable pub answer_given : Result SlotRecord Refusal → SlotAnswer
answer_given (Ok given) = Counted given
answer_given (Err refusal) = Refused (refusal_number refusal)
