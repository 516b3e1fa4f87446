-- C's struct of a loss goes by cases as its definition does.
use Rattle.std.proofs.Common.{ap, sym, Result, ℕ}
use Rattle.orders.specs.declared.refusal.Refusal.{Refusal}
use Rattle.worst.specs.Worst.{worst_given}
use Rattle.exports.specs.NumberedRuns.{worst_of}
use Rattle.exports.proofs.worst_case.WorstFromResultU32Refusal.from.Goals as goal

pub returns-in-Ok : goal.returns-in-Ok
unfolding worst_of worst_given
returns-in-Ok c = ap (λ (given : Result ℕ Refusal). worst_of (worst_given given)) (sym c.in-Ok.is)

pub returns-in-Err : goal.returns-in-Err
unfolding worst_of worst_given
returns-in-Err c = rw c.number.ensures (ap (λ (given : Result ℕ Refusal). worst_of (worst_given given)) (sym c.in-Err.is))
