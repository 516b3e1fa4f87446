-- `list` lists one stream's count a turn.
use mathlib.Core.Path.{refl}
use Prim.Native.Nat.{◌+◌, ◌*◌}
use native.Mathlib.Omega.{arith}
use Rattle.port.proofs.SlotListed.{place_inside, written_next}
use borrow.Author.Rules.{rules}
use Rattle.port.proofs.run.list.Goals as goal

pub loop-i-preserved : goal.loop-i-preserved
loop-i-preserved c =
    let z = c.args in
    let l = c.loop-i in
    let inside = place_inside z.slots z.streams l.i z.t (search rules) (search rules) in
    written_next z.slots z.t _ z.sent.now l.i (l.i * z.slots + z.t) _ l.sent l.invariant (search rules) refl (omega (arith, inside)) refl
