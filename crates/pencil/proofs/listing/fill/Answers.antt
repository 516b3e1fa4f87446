-- `fill` works each trace from its last slot back.
use Rattle.std.proofs.Common.{◌≡◌, ◌*◌, ◌^◌, ◌≤◌, refl, arith, rules}
use native.Mathlib.Nat.{mul-le-mul_right, mul_comm}
use Rattle.pencil.proofs.FilledListing.{filling-last, trace-first, trace_next, trace-last}
use Rattle.pencil.proofs.listing.fill.Goals as goal

pub loop-j-init : goal.loop-j-init
loop-j-init c = trace-first c.args.slots c.loop-k.list c.loop-k.k c.loop-k.invariant (omega (arith, c.traces-k-end.ensures.0, c.loop-k-test.true))

pub loop-j-preserved : goal.loop-j-preserved
loop-j-preserved c =
    let l = c.loop-j in
    trace_next c.args.slots l.list c.loop-k.k l.j l.rest _ l.invariant (search rules) (search rules) refl

pub loop-k-preserved : goal.loop-k-preserved
loop-k-preserved c =
    let l = c.loop-j in
    let done : l.j ≡ 0 = omega arith in
    trace-last c.args.slots l.list c.loop-k.k l.rest (rw done at l.invariant)

pub returns : goal.returns
returns c =
    let l = c.loop-k in
    let slots = c.args.slots in
    let all : 4 ^ slots ≤ l.k = omega (arith, c.loop-k-test.false, c.traces-k-end.ensures.0) in
    filling-last slots l.list (l.k * slots) l.invariant (omega (arith, l.invariant.long, mul_comm slots (4 ^ slots), mul-le-mul_right slots all))
