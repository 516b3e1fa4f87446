-- `rows_refusal` goes from row 0 on as long as nothing is refused.
use mathlib.Core.Path.{◌≡◌, sym, ap, ◌∙◌}
use native.Mathlib.Omega.{arith}
use Rattle.orders.specs.Answered.{number_given}
use Rattle.orders.proofs.Given.{given_none}
use Rattle.square_calculus.specs.Square.{square_entry}
use Rattle.square.specs.Refusals.{first_of, rows_refusal}
use Rattle.square.proofs.FirstNumber.{first_none, refused_at, fine_at}
use borrow.Author.Rules.{rules}
use Rattle.square.proofs.judge.rows_refusal.Goals as goal

pub loop-row-init : goal.loop-row-init
loop-row-init c = first_none _

pub returns-in_err-row_refusal : goal.returns-in_err-row_refusal
unfolding rows_refusal square_entry
returns-in_err-row_refusal c =
    let l = c.loop-row in
    refused_at _ l.row-index l.invariant c.row_refusal.result c.from_residual.result c.in_err-row_refusal.field-0.0
    c.row_refusal.ensures (search rules) (search rules) 33 (search rules)

pub loop-row-preserved : goal.loop-row-preserved
unfolding square_entry
loop-row-preserved c =
    let l = c.loop-row in
    fine_at _ l.row-index l.invariant (given_none c.row_refusal.result _ _ c.row_refusal.ensures (search rules))

pub returns : goal.returns
unfolding rows_refusal number_given
returns c =
    let l = c.loop-row in
    let end : l.row-index ≡ 33 = omega arith in
    sym (ap (first_of _) (sym end) ∙ l.invariant)
