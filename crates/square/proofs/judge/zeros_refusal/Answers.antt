-- `zeros_refusal` goes from slot 0 on as long as nothing is refused.
use mathlib.Core.Path.{◌≡◌, sym, ◌∙◌}
use Prim.Native.Nat.{suc, ◌+◌}
use native.Mathlib.Omega.{arith}
use lib.ListN.{get_or, length-take}
use lib.Seq.{get_or-take}
use Rattle.orders.specs.Answered.{number_given, refusal_number}
use Rattle.square.specs.Refusals.{below_diagonal_refusal}
use Rattle.square.proofs.FirstNumber.{first_none, first_next, first_found, zero_found, zero_fine}
use Rattle.square.proofs.judge.zeros_refusal.Goals as goal

pub loop-entry-init : goal.loop-entry-init
loop-entry-init c = first_none _

pub returns-then-entry-ne0 : goal.returns-then-entry-ne0
unfolding number_given refusal_number
returns-then-entry-ne0 c =
    let row = c.args.row.now in
    let s = c.args.s in
    let l = c.loop-entry in
    let same = get_or-take (s + 1) row l.entry-index 0 (omega (arith, length-take (s + 1) row)) in
    let found : below_diagonal_refusal (get_or row l.entry-index 0) ≡ 19 = zero_found (get_or row l.entry-index 0) (λ z. c.if-entry-ne0.true (same ∙ z)) in
    sym (first_found (λ t. below_diagonal_refusal (get_or row t 0)) l.entry-index l.invariant (λ z. omega (arith, found, z)) (suc s) (omega (arith, length-take (s + 1) row)) ∙ found)

pub loop-entry-preserved : goal.loop-entry-preserved
loop-entry-preserved c =
    let row = c.args.row.now in
    let s = c.args.s in
    let l = c.loop-entry in
    let same = get_or-take (s + 1) row l.entry-index 0 (omega (arith, length-take (s + 1) row)) in
    first_next (λ t. below_diagonal_refusal (get_or row t 0)) l.entry-index l.invariant ∙ zero_fine (get_or row l.entry-index 0) (sym same ∙ c.if-entry-ne0.false)
