-- `loss_beside` runs the trace with the limit beside the one that is kept.
use Rattle.size.proofs.Beside.{buffer_beside, delay_beside}
use Rattle.size.proofs.loss_beside.Goals as goal

pub returns-in-Delay : goal.returns-in-Delay
returns-in-Delay c =
    let z = c.args in
    let told = rw c.from.ensures at c.loss.ensures in
    buffer_beside z.table.now z.kept z.arrivals.now c.requires.0 _ c.in-Delay.is z.limit
    c.loss.result c.requires.1 told

pub returns-in-Buffer : goal.returns-in-Buffer
returns-in-Buffer c =
    let z = c.args in
    delay_beside z.table.now z.kept z.arrivals.now c.requires.0 _ c.in-Buffer.is z.limit c.loss-in-Buffer.result
    c.requires.1 c.loss-in-Buffer.ensures
