-- `go_on` works one slot a turn.
use Rattle.std.proofs.Common.{refl, arith}
use Rattle.found_links.proofs.AfterTrace.{going_next}
use Rattle.found_links.proofs.after.go_on.Goals as goal

pub loop-t-preserved : goal.loop-t-preserved
loop-t-preserved c =
    let z = c.args in
    let l = c.loop-t in
    going_next z.table.now z.slots z.admitted.now z.lost.now z.departed.now l.admitted l.lost l.departed l.t l.invariant
    _ _ _ (omega (arith, c.requires.1, c.loop-t-test.true)) refl refl c.departed_by.ensures
