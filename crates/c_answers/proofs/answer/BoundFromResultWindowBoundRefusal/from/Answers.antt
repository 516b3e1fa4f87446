-- C's struct of an answer goes by cases as its definition does.
use Rattle.std.proofs.Common.{ap, sym, Result}
use Rattle.orders.specs.declared.refusal.Refusal.{Refusal}
use Rattle.question.specs.Question.{answer_given}
use Rattle.c_answers.specs.Numbered.{bound_of}
use Rattle.question.specs.declared.question.WindowBound.{WindowBound}
use Rattle.c_answers.proofs.answer.BoundFromResultWindowBoundRefusal.from.Goals as goal

pub returns-in-Ok : goal.returns-in-Ok
unfolding bound_of answer_given
returns-in-Ok c = ap (λ (given : Result WindowBound Refusal). bound_of (answer_given given)) (sym c.in-Ok.is)

pub returns-in-Err : goal.returns-in-Err
unfolding bound_of answer_given
returns-in-Err c = rw (c.number.ensures) (ap (λ (given : Result WindowBound Refusal). bound_of (answer_given given)) (sym c.in-Err.is))
