-- `turned` takes the places from the last one back.
use mathlib.Core.Path.{◌≡◌, ap, ◌∙◌}
use Prim.Native.Nat.{ℕ, suc, ◌-◌}
use native.Mathlib.Omega.{arith}
use lib.ListN.{get_or, length-replicate}
use Rattle.calculus.proofs.Numbers.Lists.{all-zero}
use Rattle.envelope.specs.ClosureRow.{turned_row}
use Rattle.envelope.proofs.FirstPlaces.{begun_none, begun_more, begun_all}
use Rattle.envelope.proofs.envelope.turned.Goals as goal

pub loop-k-init : goal.loop-k-init
loop-k-init c = begun_none _ 129 _ (length-replicate {A = ℕ} 129 0, λ k. all-zero 129 k)

pub loop-k-preserved : goal.loop-k-preserved
loop-k-preserved c =
    let l = c.loop-k in
    let z = c.args in
    let place : z.count - 1 - l.k ≡ z.count - suc l.k = omega arith in
    begun_more _ 129 l.k _ l.out (omega arith) (ap (λ (i : ℕ). get_or z.row.now i 0) place) l.invariant

pub returns : goal.returns
unfolding turned_row
returns c =
    let l = c.loop-k in
    let all : l.k ≡ c.args.count = omega arith in
    begun_all _ 129 l.k l.out l.invariant ∙ rw all
