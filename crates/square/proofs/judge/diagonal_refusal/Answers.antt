-- `diagonal_refusal` goes from row 0 on as long as nothing is refused.
use mathlib.Core.Path.{◌≡◌, sym, ap, ◌∙◌}
use native.Mathlib.Omega.{arith}
use Rattle.orders.specs.Answered.{number_given}
use Rattle.orders.proofs.Given.{given_none}
use Rattle.square_calculus.specs.Square.{square_entry}
use Rattle.square.specs.Refusals.{first_of, diagonal_refusal}
use Rattle.square.proofs.FirstNumber.{first_none, refused_at, fine_at}
use borrow.Author.Rules.{rules}
use Rattle.square.proofs.judge.diagonal_refusal.Goals as goal

pub loop-s-init : goal.loop-s-init
loop-s-init c = first_none _

pub returns-in_err-zeros_refusal : goal.returns-in_err-zeros_refusal
unfolding diagonal_refusal square_entry
returns-in_err-zeros_refusal c =
    let l = c.loop-s in
    refused_at _ l.s l.invariant c.zeros_refusal.result c.from_residual.result c.in_err-zeros_refusal.field-0.0
    c.zeros_refusal.ensures (search rules) (search rules) 33 (search rules)

pub loop-s-preserved : goal.loop-s-preserved
unfolding square_entry
loop-s-preserved c =
    let l = c.loop-s in
    fine_at _ l.s l.invariant (given_none c.zeros_refusal.result _ _ c.zeros_refusal.ensures (search rules))

pub returns : goal.returns
unfolding diagonal_refusal number_given
returns c =
    let l = c.loop-s in
    let end : l.s ≡ 33 = omega arith in
    sym (ap (first_of _) (sym end) ∙ l.invariant)
