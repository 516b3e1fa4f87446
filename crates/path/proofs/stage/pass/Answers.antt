-- `pass` runs one stage, a regulator alone, which is accepted.
use lib.ListN.{replicate}
use lib.Seq.{length-take-le}
use Rattle.orders.proofs.Given.{none_ok}
use Rattle.path.proofs.StageRows.{stage-accepted, stage_passed}
use borrow.Author.Rules.{rules}
use Rattle.path.proofs.stage.pass.Goals as goal

pub unwrap-requires : goal.unwrap-requires
unwrap-requires c =
    let blank = length-take-le _ (replicate 4096 0) (search rules) in
    none_ok c.run_alone.result _ c.run_alone.ensures.answered (stage-accepted c.args.table.now c.args.before.now _ _ _ c.requires blank blank)

pub returns : goal.returns
returns c =
    let z = c.args in
    stage_passed z.table.now z.before.now _ _ _ _ _ _ _ c.requires
    (length-take-le _ (replicate 4096 0) (search rules))
    (length-take-le _ (replicate 4096 0) (search rules))
    c.run_alone.ensures
