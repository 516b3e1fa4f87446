-- C's struct of an answer goes by cases as its definition does.
use Rattle.std.proofs.Common.{ap, sym, Result}
use Rattle.orders.specs.declared.refusal.Refusal.{Refusal}
use Rattle.live_step.specs.Answer.{answer_given}
use Rattle.c_answers.specs.Numbered.{row_of}
use Rattle.live_step.specs.declared.record.SlotRecord.{SlotRecord}
use Rattle.c_answers.proofs.answer.SlotRowFromResultSlotRecordRefusal.from.Goals as goal

pub returns-in-Ok : goal.returns-in-Ok
unfolding row_of answer_given
returns-in-Ok c = ap (λ (given : Result SlotRecord Refusal). row_of (answer_given given)) (sym c.in-Ok.is)

pub returns-in-Err : goal.returns-in-Err
unfolding row_of answer_given
returns-in-Err c = rw (c.number.ensures) (ap (λ (given : Result SlotRecord Refusal). row_of (answer_given given)) (sym c.in-Err.is))
