-- What a path's run answers and leaves where it is accepted.
use mathlib.Core.Path.{◌≡◌}
use mathlib.Core.List.{List}
use Prim.Native.Nat.{ℕ}
use lib.ListN.{length}
use Rattle.orders.proofs.Answered.{filled-accepted}
use Rattle.orders.specs.Verdict as verdict
use Rattle.refusals.specs.Limits.{delay_limit, buffer_limit}
use Rattle.path.specs.Refusals.{path_refusal}
use Rattle.path.specs.PathRun.{PathRan}
use Rattle.path.specs.PathWork.{PathRows}

module _ (stages : ℕ) (tables : List (List ℕ)) (d q : ℕ) (trace ins drops outs : List ℕ) where
  abbrev number : ℕ
  number = path_refusal stages tables d q trace (length ins) (length drops) (length outs)

  -- An accepted run fills the lists with the path's rows.
  pub path_answered : number ≡ 0 → (ins' drops' outs' : List ℕ) → PathRows tables (delay_limit d) (buffer_limit q) trace ins' drops' outs'
      → PathRan stages tables d q trace ins drops outs verdict.Accepted ins' drops' outs'
  path_answered none ins' drops' outs' rows =
      filled-accepted number _ _ _ ins drops outs none ins' drops' outs' (rows.admits, rows.dropped, rows.departs)
