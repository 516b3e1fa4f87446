-- C's struct of an answer goes by cases as its definition does.
use Rattle.std.proofs.Common.{◌≡◌, refl, ap, sym, ◌∙◌, Result, Ok}
use Rattle.orders.specs.declared.refusal.Refusal.{Refusal}
use Rattle.chain.specs.CheckerAnswer.{checked_given}
use Rattle.c_answers.specs.Numbered.{chain_verdict_of}
use mir.Val.{bool_byte}
use mathlib.Core.Bool.{Bool, true, false}
use Rattle.c_answers.proofs.answer.ChainVerdictFromResultBoolRefusal.from.Goals as goal

told : (sound : Bool) → record { number = 0; sound = bool_byte sound } ≡ chain_verdict_of (checked_given (Ok sound))
unfolding chain_verdict_of checked_given
told true = refl
told false = refl

pub returns-in-Ok : goal.returns-in-Ok
returns-in-Ok c = told c.in-Ok.sound ∙ ap (λ (given : Result Bool Refusal). chain_verdict_of (checked_given given)) (sym c.in-Ok.is)

pub returns-in-Err : goal.returns-in-Err
unfolding chain_verdict_of checked_given
returns-in-Err c = rw (c.number.ensures) (ap (λ (given : Result Bool Refusal). chain_verdict_of (checked_given given)) (sym c.in-Err.is))
