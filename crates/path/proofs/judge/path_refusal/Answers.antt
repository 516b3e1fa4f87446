-- `path_refusal` judges the tables of one to four stages, and the lists of at most 4,096 slots.
use borrow.Author.Rules.{rules}
use Rattle.orders.proofs.Given.{given_none}
use Rattle.path.proofs.RefusalParts.{stages-accepted, length-accepted}
use Rattle.path.proofs.judge.path_refusal.Goals as goal

pub tables_refusal-requires : goal.tables_refusal-requires
tables_refusal-requires c = (stages-accepted c.args.stages (given_none c.stages_refusal.result _ _ c.stages_refusal.ensures (search rules))).1

pub lists_refusal-requires : goal.lists_refusal-requires
lists_refusal-requires c = (
  (stages-accepted c.args.stages (given_none c.stages_refusal.result _ _ c.stages_refusal.ensures (search rules))).1,
  length-accepted _ (given_none c.length_refusal.result _ _ c.length_refusal.ensures (search rules)),
)
