-- `pencil_run` refuses before it writes, or lists the counts.
use Rattle.std.proofs.Common.{ap, is_ok, rules, arith}
use Rattle.orders.specs.Answered.{verdict_given}
use Rattle.orders.proofs.Answered.{filled-accepted}
use Rattle.orders.proofs.Given.{given_none, lists_refused}
use Rattle.settings.proofs.TakenTable.{take_ok}
use Rattle.pencil.proofs.RunAnswer.{pencil-accepted, pencil-tabled, pencil-buffer, pencil_works}
use Rattle.pencil.proofs.run.pencil_run.Goals as goal

pub returns-in_err-pencil_refusal : goal.returns-in_err-pencil_refusal
returns-in_err-pencil_refusal c =
    lists_refused _ _ _ c.args.admitted.now c.args.dropped.now c.args.departed.now c.pencil_refusal.result c.from_residual.result
    c.in_err-pencil_refusal.field-0.0 _ c.pencil_refusal.ensures (search rules) (search rules)

pub unwrap-envelope-requires : goal.unwrap-envelope-requires
unwrap-envelope-requires c =
    let z = c.args in
    let none = given_none c.pencil_refusal.result _ _ c.pencil_refusal.ensures (search rules) in
    ap is_ok (take_ok c.take.result z.table.now c.take.ensures (pencil-tabled z.table.now z.delay.0 z.buffer.0 z.arrivals.now _ _ _ none))

pub list-requires : goal.list-requires
list-requires c =
    let z = c.args in
    let none = given_none c.pencil_refusal.result _ _ c.pencil_refusal.ensures (search rules) in
    let ok = pencil-accepted z.table.now z.delay.0 z.buffer.0 z.arrivals.now _ _ _ none in (
      pencil_works z.table.now z.delay.0 z.buffer.0 z.arrivals.now _ _ _ none
          c.take.result _ c.take.ensures c.unwrap-envelope.ensures _ c.near.ensures.0,
      ok.long_ins,
      ok.long_drops,
      ok.long_outs,
    )

pub returns : goal.returns
unfolding verdict_given
returns c =
    let none = given_none c.pencil_refusal.result _ _ c.pencil_refusal.ensures (search rules) in
    let rows = c.list.ensures in
    filled-accepted _ _ _ _ _ _ _ none _ _ _ (rows.admits, rows.dropped, rows.departs)

pub overflow_cast-work : goal.overflow_cast-work
overflow_cast-work c =
    let z = c.args in
    let none = given_none c.pencil_refusal.result _ _ c.pencil_refusal.ensures (search rules) in
    omega (arith, pencil-buffer z.table.now z.delay.0 z.buffer.0 z.arrivals.now _ _ _ none)
