-- `least_sum` keeps the least of the sums so far.
use mathlib.Core.Path.{◌≡◌}
use Prim.Native.Nat.{◌+◌, ◌-◌}
use native.Mathlib.Omega.{arith}
use Rattle.square.proofs.ClosedPlaces.{sum_fits, sums_first, sums_next}
use borrow.Author.Rules.{rules}
use Rattle.square.proofs.close.least_sum.Goals as goal

pub overflow_add-least : goal.overflow_add-least
overflow_add-least c =
    let z = c.args in
    let fits = sum_fits z.square.now z.row.now z.column c.requires.3 c.requires.4 z.first (search rules) (search rules) in
    search (rules, fits)

pub overflow_add-row : goal.overflow_add-row
overflow_add-row c =
    let z = c.args in
    let fits = sum_fits z.square.now z.row.now z.column c.requires.3 c.requires.4 c.loop-r.r (omega arith) (search rules) in
    search (rules, fits)

pub loop-r-init : goal.loop-r-init
loop-r-init c =
    let z = c.args in
    λ i e. let same : i ≡ z.first = omega arith in rw same (sums_first z.square.now z.row.now z.column z.first)

pub loop-r-preserved : goal.loop-r-preserved
loop-r-preserved c =
    let z = c.args in
    let l = c.loop-r in
    let back : l.r - 1 + 1 ≡ l.r = omega arith in
    let next = sums_next z.square.now z.row.now z.column z.first (l.r - 1) l.least c.min-least.result (omega arith) (l.invariant (l.r - 1) back)
    (rw (← back) at c.min-least.ensures) in
    λ i e. let same : i ≡ l.r = omega arith in rw same (rw back at next)
