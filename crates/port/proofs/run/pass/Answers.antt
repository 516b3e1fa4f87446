-- `pass` lists one stream's arrivals a turn.
use mathlib.Core.Path.{refl}
use Prim.Native.Nat.{◌+◌, ◌*◌}
use native.Mathlib.Omega.{arith}
use lib.ListN.{get_or}
use Rattle.port_calculus.proofs.Sums.{sum_below_most}
use Rattle.port.proofs.PassedSlot.{passed_none, passed_next}
use Rattle.port.proofs.SlotListed.{place_inside}
use borrow.Author.Rules.{rules}
use Rattle.port.proofs.run.pass.Goals as goal

pub loop-i-init : goal.loop-i-init
loop-i-init c = passed_none _ _ _ _

pub loop-i-preserved : goal.loop-i-preserved
loop-i-preserved c =
    let z = c.args in
    let l = c.loop-i in
    let inside = place_inside z.slots z.streams l.i z.t (search rules) (search rules) in
    passed_next z.slots z.t z.input.now z.sent.now l.i (l.i * z.slots + z.t) l.comes l.sent l.invariant (search rules) refl (omega (arith, inside))

pub overflow_add-comes : goal.overflow_add-comes
overflow_add-comes c =
    let z = c.args in
    let l = c.loop-i in
    omega (
      arith,
      l.invariant.total,
      sum_below_most (λ j. get_or z.input.now (j * z.slots + z.t) 0) 1000000 l.i (λ j. c.requires.5 (j * z.slots + z.t)),
      c.requires.5 (l.i * z.slots + z.t),
    )
