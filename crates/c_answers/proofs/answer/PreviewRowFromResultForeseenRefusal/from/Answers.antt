-- C's struct of an answer goes by cases as its definition does.
use Rattle.std.proofs.Common.{ap, sym, Result}
use Rattle.orders.specs.declared.refusal.Refusal.{Refusal}
use Rattle.preview.specs.Preview.{preview_given}
use Rattle.c_answers.specs.Numbered.{preview_row_of}
use Rattle.preview.specs.declared.next.Foreseen.{Foreseen}
use Rattle.c_answers.proofs.answer.PreviewRowFromResultForeseenRefusal.from.Goals as goal

pub returns-in-Ok : goal.returns-in-Ok
unfolding preview_row_of preview_given
returns-in-Ok c = ap (λ (given : Result Foreseen Refusal). preview_row_of (preview_given given)) (sym c.in-Ok.is)

pub returns-in-Err : goal.returns-in-Err
unfolding preview_row_of preview_given
returns-in-Err c = rw (c.number.ensures) (ap (λ (given : Result Foreseen Refusal). preview_row_of (preview_given given)) (sym c.in-Err.is))
