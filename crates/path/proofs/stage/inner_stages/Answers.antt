-- `inner_stages` takes one stage a turn, and feeds the first with a copy of the row.
use mathlib.Core.List.{[], ◌∷◌, List}
use mathlib.Core.Path.{◌≡◌, ◌∙◌}
use Prim.Native.Nat.{ℕ, ◌+◌, ◌*◌}
use lib.ListN.{length}
use native.Mathlib.Omega.{arith}
use Rattle.path.proofs.StageRows.{fed-first, fed_asks, fed_next}
use Rattle.path.proofs.stage.inner_stages.Goals as goal

pub loop-stage-init : goal.loop-stage-init
loop-stage-init c =
    let none : 0 * length c.args.admitted.now ≡ 0 = omega arith in
    rw (none, c.copy_from_slice.ensures.after) (fed-first _ _ _)

pub pass-requires : goal.pass-requires
pass-requires c =
    let z = c.args.tables in
    let l = c.loop-stage in
    let all : List (List ℕ) = z.first.now ∷ z.second.now ∷ z.third.now ∷ z.fourth.now ∷ [] in
    rw c.of_stage.ensures (fed_asks c.args.inner all c.args.admitted.now c.args.departed.now c.requires l.stage _ l.before l.departed l.invariant (omega arith))

pub loop-stage-preserved : goal.loop-stage-preserved
loop-stage-preserved c =
    let z = c.args.tables in
    let l = c.loop-stage in
    let T : ℕ = length c.args.admitted.now in
    let all : List (List ℕ) = z.first.now ∷ z.second.now ∷ z.third.now ∷ z.fourth.now ∷ [] in
    let next : (l.stage + 1) * T ≡ l.stage * T + T = omega arith in
    let passed = rw c.of_stage.ensures at c.pass.ensures in
    rw next
    (fed_next c.args.inner all c.args.admitted.now c.args.departed.now c.requires l.stage _ l.before l.departed l.invariant _ _
    (c.copy_from_slice-in-loop-stage.ensures.after ∙ passed) passed)
