-- `tables_refusal` passes on the judgment of the tables that are left.
use mathlib.Core.List.{[], ◌∷◌, List}
use mathlib.Core.Path.{◌≡◌, sym, ap, ◌∙◌}
use Prim.Native.Nat.{ℕ}
use native.Mathlib.Omega.{arith}
use borrow.Author.Rules.{rules}
use Rattle.orders.specs.Answered.{number_given}
use Rattle.orders.proofs.Given.{refused_first, given_none}
use Rattle.refusals.specs.Table.{table_refusal}
use Rattle.path.specs.Refusals.{tables_of}
use Rattle.path.proofs.RefusalParts.{tables_left, tables_fine, tables_done}
use Rattle.path.proofs.judge.tables_refusal.Goals as goal

pub returns-in_err-table_refusal : goal.returns-in_err-table_refusal
unfolding tables_of
returns-in_err-table_refusal c =
    let z = c.args.tables in
    let all : List (List ℕ) = z.first.now ∷ z.second.now ∷ z.third.now ∷ z.fourth.now ∷ [] in
    let judged = c.table_refusal.ensures ∙ ap table_refusal c.of_stage.ensures in
    refused_first c.table_refusal.result c.from_residual.result c.in_err-table_refusal.field-0.0 _ _ judged (search rules) (search rules)
    ∙ sym (c.loop-stage.invariant ∙ tables_left c.args.stages all c.loop-stage.stage (omega arith) (omega arith))

pub loop-stage-preserved : goal.loop-stage-preserved
loop-stage-preserved c =
    let z = c.args.tables in
    let all : List (List ℕ) = z.first.now ∷ z.second.now ∷ z.third.now ∷ z.fourth.now ∷ [] in
    let judged = c.table_refusal.ensures ∙ ap table_refusal c.of_stage.ensures in
    c.loop-stage.invariant ∙ tables_fine c.args.stages all c.loop-stage.stage (omega arith) (omega arith)
    (given_none c.table_refusal.result _ _ judged (search rules))

pub returns : goal.returns
unfolding tables_of number_given
returns c =
    let e : c.loop-stage.stage ≡ c.args.stages = omega arith in
    sym ((rw e at c.loop-stage.invariant) ∙ tables_done c.args.stages _)
