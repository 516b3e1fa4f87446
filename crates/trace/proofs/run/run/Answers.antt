-- `run` refuses before it writes, or works the trace.
use mathlib.Core.Path.{◌≡◌}
use native.Mathlib.Omega.{arith}
use lib.ListN.{length}
use Rattle.refusals.specs.WholeTrace.{run_refusal}
use Rattle.trace.specs.RunWork.{Workable}
use Rattle.orders.proofs.Given.{given_none, lists_refused}
use Rattle.orders.specs.Answered.{verdict_given}
use Rattle.trace.proofs.RunAnswer.{run_filled, run_workable}
use Rattle.trace.proofs.Totals.{buffer_fits}
use Rattle.trace.proofs.RunLoop.{ok}
use borrow.Author.Rules.{rules}
use Rattle.trace.proofs.run.run.Goals as goal

pub returns-in_err-run_refusal : goal.returns-in_err-run_refusal
returns-in_err-run_refusal c =
    lists_refused _ _ _ c.args.admitted.now c.args.dropped.now c.args.departed.now c.run_refusal.result c.from_residual.result c.in_err-run_refusal.field-0.0 _ c.run_refusal.ensures (search rules) (search rules)

pub kept_windows-windows-requires : goal.kept_windows-windows-requires
kept_windows-windows-requires c =
    let z = c.args in
    let none : run_refusal z.table.now z.delay.0 z.buffer.0 z.arrivals.now (length z.admitted.now) (length z.dropped.now)
    (length z.departed.now) ≡ 0 = given_none c.run_refusal.result _ _ c.run_refusal.ensures (search rules) in
    let z = c.args in
    let workable : Workable z.table.now z.delay.0 z.buffer.0 z.arrivals.now (length z.admitted.now) (length z.dropped.now)
    (length z.departed.now) = run_workable z.table.now z.delay.0 z.buffer.0 z.arrivals.now _ _ _ none in
    workable.tabled

pub work-requires : goal.work-requires
work-requires c =
    let z = c.args in
    let none : run_refusal z.table.now z.delay.0 z.buffer.0 z.arrivals.now (length z.admitted.now) (length z.dropped.now)
    (length z.departed.now) ≡ 0 = given_none c.run_refusal.result _ _ c.run_refusal.ensures (search rules) in
    let z = c.args in
    let workable : Workable z.table.now z.delay.0 z.buffer.0 z.arrivals.now (length z.admitted.now) (length z.dropped.now)
    (length z.departed.now) = run_workable z.table.now z.delay.0 z.buffer.0 z.arrivals.now _ _ _ none in
    (workable, c.kept_windows-windows.ensures)

pub returns : goal.returns
unfolding verdict_given
returns c =
    let z = c.args in
    let none : run_refusal z.table.now z.delay.0 z.buffer.0 z.arrivals.now (length z.admitted.now) (length z.dropped.now)
    (length z.departed.now) ≡ 0 = given_none c.run_refusal.result _ _ c.run_refusal.ensures (search rules) in
    let z = c.args in
    run_filled z.table.now z.delay.0 z.buffer.0 z.arrivals.now z.admitted.now z.dropped.now z.departed.now none
    _ _ _ c.work.ensures

pub overflow_cast-buffer : goal.overflow_cast-buffer
overflow_cast-buffer c =
    let z = c.args in
    let none : run_refusal z.table.now z.delay.0 z.buffer.0 z.arrivals.now (length z.admitted.now) (length z.dropped.now)
    (length z.departed.now) ≡ 0 = given_none c.run_refusal.result _ _ c.run_refusal.ensures (search rules) in
    let z = c.args in
    let workable : Workable z.table.now z.delay.0 z.buffer.0 z.arrivals.now (length z.admitted.now) (length z.dropped.now)
    (length z.departed.now) = run_workable z.table.now z.delay.0 z.buffer.0 z.arrivals.now _ _ _ none in
    let z = c.args in
    let settings = ok z.table.now z.delay.0 z.buffer.0 z.arrivals.now _ _ _ workable in
    omega (arith, buffer_fits z.table.now z.delay.0 z.buffer.0 settings)
