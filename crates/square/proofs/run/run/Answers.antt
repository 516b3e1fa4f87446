-- `run` refuses before it writes, or closes the square and works the trace.
use mathlib.Core.Path.{◌≡◌}
use native.Mathlib.Omega.{arith}
use lib.ListN.{length}
use Rattle.orders.specs.Answered.{verdict_given}
use Rattle.orders.proofs.Given.{given_none, lists_refused}
use Rattle.square.specs.RunRefusals.{square_run_refusal}
use Rattle.square.proofs.AcceptedSquare.{accepted_small}
use Rattle.refusals.proofs.AcceptedSettings.{buffer_fits}
use Rattle.square.proofs.RunAnswer.{run-accepted, run_works, run_filled}
use borrow.Author.Rules.{rules}
use Rattle.square.proofs.run.run.Goals as goal

pub returns-in_err-run_refusal : goal.returns-in_err-run_refusal
returns-in_err-run_refusal c =
    lists_refused _ _ _ c.args.admitted.now c.args.dropped.now c.args.departed.now c.run_refusal.result c.from_residual.result
    c.in_err-run_refusal.field-0.0 _ c.run_refusal.ensures (search rules) (search rules)

pub closed-bounds-requires : goal.closed-bounds-requires
closed-bounds-requires c =
    let z = c.args in
    let none : square_run_refusal z.square z.delay.0 z.buffer.0 z.arrivals.now (length z.admitted.now) (length z.dropped.now)
    (length z.departed.now) ≡ 0 = given_none c.run_refusal.result _ _ c.run_refusal.ensures (search rules) in
    accepted_small z.square (run-accepted z.square z.delay.0 z.buffer.0 z.arrivals.now _ _ _ none).judged

pub work-requires : goal.work-requires
work-requires c =
    let z = c.args in
    let none : square_run_refusal z.square z.delay.0 z.buffer.0 z.arrivals.now (length z.admitted.now) (length z.dropped.now)
    (length z.departed.now) ≡ 0 = given_none c.run_refusal.result _ _ c.run_refusal.ensures (search rules) in
    run_works z.square z.delay.0 z.buffer.0 z.arrivals.now _ _ _ none c.closed-bounds.result c.closed-bounds.ensures

pub returns : goal.returns
unfolding verdict_given
returns c =
    let z = c.args in
    let none : square_run_refusal z.square z.delay.0 z.buffer.0 z.arrivals.now (length z.admitted.now) (length z.dropped.now)
    (length z.departed.now) ≡ 0 = given_none c.run_refusal.result _ _ c.run_refusal.ensures (search rules) in
    run_filled z.square z.delay.0 z.buffer.0 z.arrivals.now z.admitted.now z.dropped.now z.departed.now none
    c.closed-bounds.result c.closed-bounds.ensures _ _ _ c.work.ensures

pub overflow_cast-buffer : goal.overflow_cast-buffer
overflow_cast-buffer c =
    let z = c.args in
    let none : square_run_refusal z.square z.delay.0 z.buffer.0 z.arrivals.now (length z.admitted.now) (length z.dropped.now)
    (length z.departed.now) ≡ 0 = given_none c.run_refusal.result _ _ c.run_refusal.ensures (search rules) in
    omega (arith, buffer_fits z.buffer.0 (run-accepted z.square z.delay.0 z.buffer.0 z.arrivals.now _ _ _ none).buffered)
