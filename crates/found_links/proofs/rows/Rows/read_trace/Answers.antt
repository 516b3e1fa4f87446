-- `read_trace` lends lists as long as the trace, and reads the rows off what an accepted run leaves there.
use Rattle.std.proofs.Common.{ℕ, length, sym, ◌∙◌, rules, length-take-le}
use lib.ListN.{replicate}
use Rattle.orders.proofs.Answered.{accepted-answer}
use Rattle.orders.proofs.Given.{none_ok}
use Rattle.trace.proofs.RunLowestLoss.{run_rows_lem}
use Rattle.found_links.proofs.rows.Rows.read_trace.Goals as goal

pub unwrap-requires : goal.unwrap-requires
unwrap-requires c =
    let lent = length-take-le (length c.args.arrivals.now) (replicate {A = ℕ} 4161 0) (search rules) in
    none_ok c.run.result _ c.run.ensures.answered (rw (sym lent) at c.requires.0)

pub returns : goal.returns
returns c =
    let z = c.args in
    let lent = length-take-le (length z.arrivals.now) (replicate {A = ℕ} 4161 0) (search rules) in
    let none = rw (sym lent) at c.requires.0 in
    let ran = c.run.ensures in
    let (admits, drops, departs) = run_rows_lem z.table.now z.delay.0 z.buffer.0 z.arrivals.now _ _ _ _ _ _ _ ran
    (ran.answered ∙ sym (accepted-answer _ none)) in
    let (delay, buffer, reach) = c.read_run.ensures.given in
    (delay, buffer, reach, c.read_run.ensures.ours z.delay.0 z.buffer.0 z.arrivals.now _ _ _ c.requires.0 admits drops departs)
