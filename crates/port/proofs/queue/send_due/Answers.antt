-- `send_due` serves one stream a turn.
use Rattle.port.proofs.Sending.{due-first, due_next}
use borrow.Author.Rules.{rules}
use Rattle.port.proofs.queue.send_due.Goals as goal

pub loop-i-init : goal.loop-i-init
loop-i-init c = due-first _ _ _ _

pub loop-i-preserved : goal.loop-i-preserved
loop-i-preserved c =
    let z = c.args in
    let l = c.loop-i in
    due_next z.base z.left z.row.now z.counts.now l.i l.rest l.row l.counts c.min-goes.result
    l.invariant (search rules) (search rules) c.min-goes.ensures
