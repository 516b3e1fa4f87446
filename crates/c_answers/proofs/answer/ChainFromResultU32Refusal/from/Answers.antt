-- C's struct of an answer goes by cases as its definition does.
use Rattle.std.proofs.Common.{ap, sym, Result}
use Rattle.orders.specs.declared.refusal.Refusal.{Refusal}
use Rattle.found_links.specs.FinderAnswer.{found_given}
use Rattle.c_answers.specs.Numbered.{chain_of}
use Prim.Native.Nat.{ℕ}
use Rattle.c_answers.proofs.answer.ChainFromResultU32Refusal.from.Goals as goal

pub returns-in-Ok : goal.returns-in-Ok
unfolding chain_of found_given
returns-in-Ok c = ap (λ (given : Result ℕ Refusal). chain_of (found_given given)) (sym c.in-Ok.is)

pub returns-in-Err : goal.returns-in-Err
unfolding chain_of found_given
returns-in-Err c = rw (c.number.ensures) (ap (λ (given : Result ℕ Refusal). chain_of (found_given given)) (sym c.in-Err.is))
