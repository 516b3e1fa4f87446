-- `tables_refusal` passes on the judgment of the tables that are left.
use mathlib.Core.List.{[], ◌∷◌}
use mathlib.Core.Path.{◌≡◌}
use lib.ListN.{take, drop}
use Rattle.path.specs.Refusals.{tables_refusal}
use Rattle.path.proofs.judge.tables_refusal.Given as goal

abbrev pub invariant-loop-stage : goal.invariant-loop-stage
invariant-loop-stage l =
    tables_refusal (take l.stages (l.tables.first.now ∷ l.tables.second.now ∷ l.tables.third.now ∷ l.tables.fourth.now ∷ []))
    ≡ tables_refusal (drop l.stage (take l.stages (l.tables.first.now ∷ l.tables.second.now ∷ l.tables.third.now ∷ l.tables.fourth.now ∷ [])))
