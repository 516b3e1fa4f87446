-- `path_run` refuses before it writes, or works the rows.
use borrow.Author.Rules.{rules}
use Rattle.orders.specs.Answered.{verdict_given}
use Rattle.orders.proofs.Given.{given_none, lists_refused}
use Rattle.path.proofs.RunAnswer.{path_answered}
use Rattle.path.proofs.run.path_run.Goals as goal

pub returns-in_err-path_refusal : goal.returns-in_err-path_refusal
returns-in_err-path_refusal c =
    lists_refused _ _ _ c.args.admitted.now c.args.dropped.now c.args.departed.now c.path_refusal.result c.from_residual.result
    c.in_err-path_refusal.field-0.0 _ c.path_refusal.ensures (search rules) (search rules)

pub work-requires : goal.work-requires
work-requires c = given_none c.path_refusal.result _ _ c.path_refusal.ensures (search rules)

pub returns : goal.returns
unfolding verdict_given
returns c =
    path_answered _ _ _ _ _ _ _ _ (given_none c.path_refusal.result _ _ c.path_refusal.ensures (search rules)) _ _ _ c.work.ensures
