-- `worst` refuses before it writes, or writes the trace and tells its loss.
use Rattle.std.proofs.Common.{◌≡◌, length, rules}
use Rattle.orders.proofs.Given.{given_none}
use Rattle.worst.specs.Worst.{worst_refusal, worst_given}
use Rattle.worst.proofs.WorstWritten.{call_refused, worst_told}
use Rattle.worst.proofs.worst.Goals as goal

pub returns-in_err-worst_refusal : goal.returns-in_err-worst_refusal
returns-in_err-worst_refusal c =
    let z = c.args in
    call_refused z.table.now z.delay.0 z.buffer.0 z.slots z.most z.all z.list.now c.worst_refusal.result c.from_residual.result
    c.in_err-worst_refusal.field-0.0 c.worst_refusal.ensures (search rules) (search rules)

pub returns : goal.returns
unfolding worst_given
returns c =
    let z = c.args in
    let none : worst_refusal z.table.now z.delay.0 z.buffer.0 z.slots z.most (length z.list.now) ≡ 0 = given_none c.worst_refusal.result _ _ c.worst_refusal.ensures (search rules) in
    worst_told z.table.now z.delay.0 z.buffer.0 z.slots z.most z.all z.list.now none _ (search rules) c.loss.result
    c.loss.ensures
