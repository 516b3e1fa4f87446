-- `write` gives each slot as much as it may.
use Rattle.worst.proofs.WorstWritten.{writing-first, writing_next, writing-last}
use borrow.Author.Rules.{rules}
use Rattle.worst.proofs.write.Goals as goal

pub loop-place-init : goal.loop-place-init
loop-place-init c = writing-first c.args.most c.args.all c.args.list.now

pub loop-place-preserved : goal.loop-place-preserved
loop-place-preserved c =
    let l = c.loop-place in
    let z = c.args in
    writing_next z.most z.all _ l.place-items l.left l.place-index c.min.result l.invariant (search rules) c.min.ensures

pub returns : goal.returns
returns c =
    let l = c.loop-place in
    let z = c.args in
    writing-last z.most z.all _ l.place-items l.left l.place-index l.invariant (search rules)
