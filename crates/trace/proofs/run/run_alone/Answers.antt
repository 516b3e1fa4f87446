-- `run_alone` refuses before it writes, or works the trace with both limits none.
use mathlib.Core.Path.{◌≡◌}
use lib.ListN.{length}
use Rattle.refusals.specs.WholeTrace.{alone_refusal}
use Rattle.trace.specs.RunWork.{Workable}
use Rattle.orders.proofs.Given.{given_none, lists_refused}
use Rattle.orders.specs.Answered.{verdict_given}
use Rattle.trace.proofs.RunAnswer.{alone_filled, alone_workable}
use borrow.Author.Rules.{rules}
use Rattle.trace.proofs.run.run_alone.Goals as goal

pub returns-in_err-alone_refusal : goal.returns-in_err-alone_refusal
returns-in_err-alone_refusal c =
    lists_refused _ _ _ c.args.admitted.now c.args.dropped.now c.args.departed.now c.alone_refusal.result c.from_residual.result c.in_err-alone_refusal.field-0.0 _ c.alone_refusal.ensures (search rules) (search rules)

pub kept_windows-windows-requires : goal.kept_windows-windows-requires
kept_windows-windows-requires c =
    let z = c.args in
    let none : alone_refusal z.table.now z.arrivals.now (length z.admitted.now) (length z.dropped.now) (length z.departed.now) ≡ 0 = given_none c.alone_refusal.result _ _ c.alone_refusal.ensures (search rules) in
    let z = c.args in
    let workable : Workable z.table.now 255 4294967295 z.arrivals.now (length z.admitted.now) (length z.dropped.now) (length z.departed.now) = alone_workable z.table.now z.arrivals.now _ _ _ none in
    workable.tabled

pub work-requires : goal.work-requires
work-requires c =
    let z = c.args in
    let none : alone_refusal z.table.now z.arrivals.now (length z.admitted.now) (length z.dropped.now) (length z.departed.now) ≡ 0 = given_none c.alone_refusal.result _ _ c.alone_refusal.ensures (search rules) in
    let z = c.args in
    let workable : Workable z.table.now 255 4294967295 z.arrivals.now (length z.admitted.now) (length z.dropped.now) (length z.departed.now) = alone_workable z.table.now z.arrivals.now _ _ _ none in
    (workable, c.kept_windows-windows.ensures)

pub returns : goal.returns
unfolding verdict_given
returns c =
    let z = c.args in
    let none : alone_refusal z.table.now z.arrivals.now (length z.admitted.now) (length z.dropped.now) (length z.departed.now) ≡ 0 = given_none c.alone_refusal.result _ _ c.alone_refusal.ensures (search rules) in
    let z = c.args in
    alone_filled z.table.now z.arrivals.now z.admitted.now z.dropped.now z.departed.now none _ _ _ c.work.ensures
