-- `loss_in` sums what the run drops.
use Rattle.std.proofs.Common.{◌≡◌, ◌∙◌, sum, rules}
use Rattle.orders.proofs.Given.{none_ok}
use Rattle.trace_loss.proofs.SummedLoss.{row_fits, row_total, ran-drops}
use Rattle.trace_loss.proofs.loss_in.Goals as goal

pub unwrap-requires : goal.unwrap-requires
unwrap-requires c = none_ok c.run.result _ c.run.ensures.answered c.requires

pub sum-requires-clause-fits : goal.sum-requires-clause-fits
sum-requires-clause-fits c =
    let z = c.args in
    let drops = ran-drops z.table.now z.delay.0 z.buffer.0 z.arrivals.now _ _ _ _ _ _ _ c.run.ensures c.requires in
    let fits = row_fits z.table.now z.delay.0 z.buffer.0 z.arrivals.now _ _ _ c.requires _ drops in
    search rules

pub returns : goal.returns
returns c =
    let z = c.args in
    let drops = ran-drops z.table.now z.delay.0 z.buffer.0 z.arrivals.now _ _ _ _ _ _ _ c.run.ensures c.requires in
    let added : c.sum.result ≡ sum c.run.new.dropped = search rules in
    added ∙ row_total z.table.now z.delay.0 z.buffer.0 z.arrivals.now _ _ _ c.requires _ drops
