-- `fill_rows` fills the rows by the regulator alone or by the run.
use borrow.Author.Rules.{rules}
use Rattle.orders.proofs.Given.{none_ok, number_of_ok, number_of_err}
use Rattle.loss_table.proofs.FileRows.{alone_none, run_none, alone_fills, run_fills}
use Rattle.loss_table.proofs.file_text.fill_rows.Goals as goal

pub unwrap-requires : goal.unwrap-requires
unwrap-requires c =
    let z = c.args in
    none_ok c.run_alone.result _ c.run_alone.ensures.answered
    (alone_none z.table.now z.delay.0 z.buffer.0 z.arrived.now z.admitted.now z.dropped.now z.departed.now c.requires)

pub returns-then-is_err : goal.returns-then-is_err
returns-then-is_err c =
    let z = c.args in
    alone_fills z.table.now z.delay.0 z.buffer.0 z.arrived.now z.admitted.now z.dropped.now z.departed.now c.requires
    (number_of_err c.both_refusal.result _ c.both_refusal.ensures (search rules)) c.run_alone.ensures

pub unwrap-requires-else-is_err : goal.unwrap-requires-else-is_err
unwrap-requires-else-is_err c =
    let z = c.args in
    none_ok c.run.result _ c.run.ensures.answered
    (run_none z.table.now z.delay.0 z.buffer.0 z.arrived.now z.admitted.now z.dropped.now z.departed.now c.requires
    (number_of_ok c.both_refusal.result _ c.both_refusal.ensures (search rules)))

pub returns-else-is_err : goal.returns-else-is_err
returns-else-is_err c =
    let z = c.args in
    run_fills z.table.now z.delay.0 z.buffer.0 z.arrived.now z.admitted.now z.dropped.now z.departed.now c.requires
    (number_of_ok c.both_refusal.result _ c.both_refusal.ensures (search rules)) c.run.ensures
