-- `closed_row` works a row from the diagonal on, by lemma 2.1 (iv).
use mathlib.Core.Path.{◌≡◌}
use Prim.Native.Nat.{ℕ, ◌+◌, ◌-◌}
use lib.ListN.{replicate, length-replicate}
use native.Mathlib.Omega.{arith}
use Rattle.calculus.proofs.Numbers.Lists.{all-zero}
use Rattle.square.proofs.ClosedPlaces.{closing_starts, closing_low, closing_on, closing_ends}
use Rattle.square.proofs.close.closed_row.Goals as goal

pub loop-t-init : goal.loop-t-init
loop-t-init c =
    let z = c.args in
    let pre = c.requires in
    λ i e. let same : i ≡ z.s = omega arith in
    rw same (closing_starts z.square.now pre.1 z.s pre.0 (replicate 33 0) (length-replicate {A = ℕ} 33 0) (all-zero 33))

pub least_sum-requires : goal.least_sum-requires
least_sum-requires c =
    let l = c.loop-t in
    let z = c.args in
    let pre = c.requires in
    (omega arith, omega arith, omega arith, closing_low z.square.now pre.1 z.s pre.0 (l.t - 1) l.row (l.invariant (l.t - 1) (omega arith)) (omega arith), pre.1)

pub loop-t-preserved : goal.loop-t-preserved
loop-t-preserved c =
    let l = c.loop-t in
    let z = c.args in
    let pre = c.requires in
    let back : l.t - 1 + 1 ≡ l.t = omega arith in
    λ i e. let same : i ≡ l.t = omega arith in
    rw same (closing_on z.square.now pre.1 z.s pre.0 (l.t - 1) l.row (l.invariant (l.t - 1) back) l.t back (omega arith) (omega arith) _ c.least_sum.ensures)

pub returns : goal.returns
returns c =
    let z = c.args in
    let pre = c.requires in
    closing_ends z.square.now pre.1 z.s pre.0 32 c.loop-t.row (c.loop-t.invariant 32 (omega arith)) (omega arith)
