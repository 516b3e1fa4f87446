-- `file_refusal` judges the contents only where the sizes are right.
use borrow.Author.Rules.{rules}
use Rattle.orders.proofs.Given.{given_none}
use Rattle.stream.proofs.FileJudged.{sizes-accepted}
use Rattle.stream.proofs.judge.file_refusal.Goals as goal

pub contents_refusal-requires : goal.contents_refusal-requires
contents_refusal-requires c =
    (sizes-accepted c.args.file.now (given_none c.sizes_refusal.result _ _ c.sizes_refusal.ensures (search rules))).last_to
