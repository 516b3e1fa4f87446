-- `inner_stages` takes one stage a turn.
use mathlib.Core.List.{[], ◌∷◌}
use Prim.Native.Nat.{◌*◌}
use lib.ListN.{length}
use Rattle.path.proofs.StageRows.{Fed}
use Rattle.path.proofs.stage.inner_stages.Given as goal

abbrev pub invariant-loop-stage : goal.invariant-loop-stage
invariant-loop-stage l =
    Fed (l.tables.first.now ∷ l.tables.second.now ∷ l.tables.third.now ∷ l.tables.fourth.now ∷ []) l.admitted l.initial.departed l.stage (l.stage * length l.admitted) l.before l.departed
