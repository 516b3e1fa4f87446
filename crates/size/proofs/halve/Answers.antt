-- `halve` halves the limits that are left.
use mathlib.Core.Path.{◌≡◌}
use Prim.Native.Nat.{◌+◌, ◌-◌, ◌/◌}
use native.Mathlib.Omega.{arith}
use Rattle.size_calculus.proofs.Bisection.{between_first, between_lower, between_higher, between_met}
use Rattle.size.proofs.Beside.{greatest_few, beside_never_grows}
use Rattle.size.proofs.halve.Goals as goal

pub loop-low-init : goal.loop-low-init
loop-low-init c = rw c.greatest_beside-high.ensures (between_first _ _ _)

pub loss_beside-requires : goal.loss_beside-requires
loss_beside-requires c = (c.requires, omega (arith, c.loop-low.invariant.within))

pub loop-low-preserved-then-loss_beside-most : goal.loop-low-preserved-then-loss_beside-most
loop-low-preserved-then-loss_beside-most c =
    let l = c.loop-low in
    between_lower _ _ _ (beside_never_grows c.args.table.now c.args.kept c.args.arrivals.now c.requires) l.low l.high l.invariant
    (l.low + (l.high - l.low) / 2) (omega arith) (omega arith) (omega (arith, c.loss_beside.ensures))

pub loop-low-preserved : goal.loop-low-preserved
loop-low-preserved c =
    let l = c.loop-low in
    between_higher _ _ _ (beside_never_grows c.args.table.now c.args.kept c.args.arrivals.now c.requires) l.low
    l.high l.invariant
    (l.low + (l.high - l.low) / 2) (omega arith) (omega arith) (omega (arith, c.loss_beside.ensures))

pub returns : goal.returns
returns c =
    let l = c.loop-low in
    let met : l.high ≡ l.low = omega (arith, l.invariant.ordered) in
    between_met _ _ _ l.low (rw met at l.invariant)

pub overflow_add-high : goal.overflow_add-high
overflow_add-high c = omega (arith, c.greatest_beside-high.ensures, greatest_few c.args.kept)
