-- `merged_table` takes one table a turn.
use mathlib.Core.List.{[], ◌∷◌}
use lib.ListN.{take}
use Rattle.path.proofs.Merging.{Lowered}
use Rattle.path.proofs.merge.merged_table.Given as goal

abbrev pub invariant-loop-stage : goal.invariant-loop-stage
invariant-loop-stage l =
    Lowered (take l.stage (l.tables.first.now ∷ l.tables.second.now ∷ l.tables.third.now ∷ l.tables.fourth.now ∷ [])) l.entries l.room
