-- `row_refusal` goes along the row as long as nothing is refused.
use Rattle.orders.proofs.Given.{given_none}
use Rattle.square.proofs.FirstNumber.{first_none, refused_at, fine_at, entry-after}
use borrow.Author.Rules.{rules}
use Rattle.square.proofs.judge.row_refusal.Goals as goal

pub loop-t-init : goal.loop-t-init
loop-t-init c = first_none _

pub returns-in_err-entry_refusal : goal.returns-in_err-entry_refusal
returns-in_err-entry_refusal c =
    let l = c.loop-t in
    refused_at _ l.t l.invariant c.entry_refusal.result c.from_residual.result c.in_err-entry_refusal.field-0.0
    (entry-after c.args.row.now l.t _ c.entry_refusal.ensures) (search rules) (search rules) 32 (search rules)

pub loop-t-preserved : goal.loop-t-preserved
loop-t-preserved c =
    let l = c.loop-t in
    fine_at _ l.t l.invariant (given_none c.entry_refusal.result _ _ (entry-after c.args.row.now l.t _ c.entry_refusal.ensures) (search rules))
