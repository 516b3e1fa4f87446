-- `certify` runs the trace in the lent lists, and writes the links over an accepted run's rows.
use Rattle.std.proofs.Common.{arith, rules}
use Rattle.orders.specs.Answered.{number_given}
use Rattle.refusals.proofs.AcceptedSettings.{set_up-accepted}
use Rattle.trace.proofs.Totals.{buffer_fits}
use Rattle.trace.proofs.RunAnswer.{run-accepted}
use Rattle.trace.proofs.RunLowestLoss.{run_rows_lem, run-lowest-loss}
use Rattle.found_links.proofs.GivenLists.{given_accepted, given_refused, given_filled}
use Rattle.found_links.proofs.certify.certify.Goals as goal

pub returns-in_err-run : goal.returns-in_err-run
returns-in_err-run c =
    let z = c.args in
    given_refused z.table.now z.delay.0 z.buffer.0 z.arrivals.now z.admitted_from.now z.admitted_by.now z.departed_from.now
    _ _ _ c.run.result c.run.ensures c.from_residual.result c.in_err-run.field-0.0 (search rules) (search rules)

pub link_run-requires : goal.link_run-requires
link_run-requires c =
    let z = c.args in
    let ran = c.run.ensures in
    let (none, accepted) = given_accepted z.table.now z.delay.0 z.buffer.0 z.arrivals.now z.admitted_from.now z.admitted_by.now z.departed_from.now
    _ _ _ c.run.result ran _ (search rules) in
    let ok = run-accepted z.table.now z.delay.0 z.buffer.0 z.arrivals.now _ _ _ none in
    let lowest = run-lowest-loss z.table.now z.delay.0 z.buffer.0 z.arrivals.now z.admitted_from.now z.admitted_by.now
    z.departed_from.now _ _ _ _ ran accepted in
    (omega (arith, lowest.long_ins, ok.traced.short), omega (arith, lowest.long_ins, lowest.long_drops), omega (arith, lowest.long_ins, lowest.long_outs))

pub returns : goal.returns
unfolding number_given
returns c =
    let z = c.args in
    let ran = c.run.ensures in
    let (none, accepted) = given_accepted z.table.now z.delay.0 z.buffer.0 z.arrivals.now z.admitted_from.now z.admitted_by.now z.departed_from.now
    _ _ _ c.run.result ran _ (search rules) in
    let (ins, drops, outs) = run_rows_lem z.table.now z.delay.0 z.buffer.0 z.arrivals.now z.admitted_from.now
    z.admitted_by.now z.departed_from.now _ _ _ _ ran accepted in
    given_filled z.table.now z.delay.0 z.buffer.0 z.arrivals.now z.admitted_from.now z.admitted_by.now z.departed_from.now
    none _ _ _ (c.link_run.ensures z.arrivals.now _ _ _ none ins drops outs)

pub overflow_cast-buffer : goal.overflow_cast-buffer
overflow_cast-buffer c =
    let z = c.args in
    let (none, _) = given_accepted z.table.now z.delay.0 z.buffer.0 z.arrivals.now z.admitted_from.now z.admitted_by.now z.departed_from.now
    _ _ _ c.run.result c.run.ensures _ (search rules) in
    let ok = run-accepted z.table.now z.delay.0 z.buffer.0 z.arrivals.now _ _ _ none in
    omega (arith, buffer_fits z.table.now z.delay.0 z.buffer.0 (set_up-accepted z.table.now z.delay.0 z.buffer.0 ok.set_up))
