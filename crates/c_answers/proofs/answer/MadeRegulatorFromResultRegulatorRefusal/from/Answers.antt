-- C's struct of an answer goes by cases as its definition does.
use Rattle.std.proofs.Common.{ap, sym, Result}
use Rattle.orders.specs.declared.refusal.Refusal.{Refusal}
use Rattle.regulator.specs.Regulator.{set_up_given}
use Rattle.c_answers.specs.Numbered.{made_of}
use Rattle.orders.specs.Answered.{verdict_number}
use Rattle.regulator.specs.declared.regulator.Regulator.{Regulator}
use Rattle.c_answers.proofs.answer.MadeRegulatorFromResultRegulatorRefusal.from.Goals as goal

pub returns-in-Ok : goal.returns-in-Ok
unfolding made_of set_up_given verdict_number
returns-in-Ok c = ap (λ (given : Result Regulator Refusal). made_of (set_up_given given)) (sym c.in-Ok.is)

pub returns-in-Err : goal.returns-in-Err
unfolding made_of set_up_given verdict_number
returns-in-Err c = rw (c.number.ensures, c.no_regulator.ensures) (ap (λ (given : Result Regulator Refusal). made_of (set_up_given given)) (sym c.in-Err.is))
