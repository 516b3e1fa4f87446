-- `take` judges, and copies what is accepted.
use Rattle.std.proofs.Common.{◌≡◌, rules, arith}
use Rattle.refusals.specs.Table.{table_refusal}
use Rattle.settings.specs.Taken.{envelope_from, taken_given}
use Rattle.orders.proofs.Given.{given_none}
use Rattle.refusals.proofs.TableJudged.{table-accepted}
use Rattle.settings.proofs.TakenTable.{take_refused, taken-accepted}
use Rattle.settings.proofs.table.take.Goals as goal

pub returns-in_err-table_refusal : goal.returns-in_err-table_refusal
returns-in_err-table_refusal c =
    take_refused c.table_refusal.result c.from_residual.result c.in_err-table_refusal.field-0.0 c.args.table.now c.table_refusal.ensures (search rules) (search rules)

pub overflow_cast-result : goal.overflow_cast-result
overflow_cast-result c =
    let none : table_refusal c.args.table.now ≡ 0 = given_none c.table_refusal.result _ _ c.table_refusal.ensures (search rules) in
    omega (arith, (table-accepted c.args.table.now none).last_to)

pub returns : goal.returns
unfolding envelope_from taken_given
returns c =
    let none : table_refusal c.args.table.now ≡ 0 = given_none c.table_refusal.result _ _ c.table_refusal.ensures (search rules) in
    rw (c.last_window.ensures, c.padded.ensures) (taken-accepted c.args.table.now none)
