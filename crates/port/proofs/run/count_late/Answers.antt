-- `count_late` adds one stream's packets a turn.
use mathlib.Core.Path.{◌≡◌}
use native.Mathlib.Omega.{arith}
use Rattle.port.proofs.SlotListed.{overdue_none, overdue_next}
use borrow.Author.Rules.{rules}
use Rattle.port.proofs.run.count_late.Goals as goal

pub loop-i-init : goal.loop-i-init
loop-i-init c = overdue_none _ _ _

pub loop-i-preserved : goal.loop-i-preserved
loop-i-preserved c =
    let z = c.args in
    let l = c.loop-i in
    overdue_next z.t z.row.now z.late.now l.i l.late l.invariant (search rules)

pub returns : goal.returns
returns c =
    let e : c.loop-i.i ≡ c.args.streams = omega arith in
    rw e at c.loop-i.invariant
