-- `merged_table` takes one table a turn.
use mathlib.Core.List.{[], ◌∷◌, List}
use mathlib.Core.Path.{◌≡◌}
use Prim.Native.Nat.{ℕ}
use native.Mathlib.Omega.{arith}
use native.Mathlib.Numerals.{add-one}
use Rattle.path.specs.Refusals.{tables_of}
use Rattle.path.proofs.Merging.{lowered_none, lowered_asks, lowered_next, lowered-table}
use Rattle.path.proofs.merge.merged_table.Goals as goal

pub loop-stage-init : goal.loop-stage-init
loop-stage-init c = lowered_none _ c.requires.2 c.requires.3

pub lower-entries-requires : goal.lower-entries-requires
unfolding tables_of
lower-entries-requires c =
    let z = c.args.tables in
    let l = c.loop-stage in
    let all : List (List ℕ) = z.first.now ∷ z.second.now ∷ z.third.now ∷ z.fourth.now ∷ [] in
    let asks = lowered_asks c.args.stages all c.requires.1 l.stage (omega arith) (omega arith) _ _ l.invariant in
    rw c.of_stage.ensures asks

pub loop-stage-preserved : goal.loop-stage-preserved
unfolding tables_of
loop-stage-preserved c =
    let z = c.args.tables in
    let l = c.loop-stage in
    let all : List (List ℕ) = z.first.now ∷ z.second.now ∷ z.third.now ∷ z.fourth.now ∷ [] in
    rw (add-one l.stage) (lowered_next c.args.stages all c.requires.1 l.stage (omega arith) (omega arith) _ _ l.invariant _ _ (rw c.of_stage.ensures at c.lower-entries.ensures))

pub returns : goal.returns
unfolding tables_of
returns c =
    let l = c.loop-stage in
    let e : l.stage ≡ c.args.stages = omega arith in
    lowered-table _ _ _ c.requires.1 (rw e at l.invariant)
