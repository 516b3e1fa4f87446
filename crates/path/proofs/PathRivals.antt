-- What anyone whose departures keep every stage's envelope can claim beside an accepted path run of the same trace: its rows are any that
-- are permitted on the path, and ours are the lists that the run leaves.
use mathlib.Core.Path.{◌≡◌}
use mathlib.Core.List.{List}
use Prim.Native.Nat.{ℕ, ◌+◌, ◌-◌, ◌≤◌}
use lib.ListN.{length}
use Rattle.calculus.specs.Numbers.Limit.{at_most}
use Rattle.calculus.specs.Regulators.Clipper.{arrived}
use Rattle.calculus.specs.Regulators.Trace.{arrivals, sum_to}
use Rattle.calculus.specs.Losses.Permitted.{Quiet}
use Rattle.calculus.proofs.Losses.Rivals.{any_rival_loses, any_rival-departs, any_rival_loses_due}
use Rattle.path_calculus.specs.Path.{PathPermitted}
use Rattle.orders.specs.Verdict.{Verdict, Accepted}
use Rattle.refusals.specs.Limits.{delay_limit, buffer_limit}
use Rattle.path.specs.Refusals.{tables_of}
use Rattle.path.specs.PathRun.{PathRan}
use Rattle.path.specs.PathLoss.{stage_part}
use Rattle.path.proofs.PathRunLowestLoss.{path_run-lowest-loss}

module _ (stages : ℕ) (first second third fourth : List ℕ) (d q : ℕ) (trace ins drops outs : List ℕ) (verdict : Verdict) (ins' drops' outs' : List ℕ)
    (ran : PathRan stages (tables_of stages first second third fourth) d q trace ins drops outs verdict ins' drops' outs') (accepted : verdict ≡ Accepted)
    (admitted departed dropped : List ℕ)
    (permitted : PathPermitted (tables_of stages first second third fourth) (delay_limit d) (buffer_limit q) (arrivals trace) (length trace) (sum_to admitted) (sum_to departed))
    (counted : (t : ℕ) → t ≤ length trace → sum_to admitted t + sum_to dropped t ≡ arrived (arrivals trace) t) where
  -- Under demand 3's premise it has admitted at most as many as our entrance after every slot, at most as many have left it as have left
  -- our last stage, and it has dropped at least as many.
  pub path_rival_loses : Quiet (delay_limit d) (arrivals trace) (length trace) → (t : ℕ) → t ≤ length trace
      → (sum_to admitted t ≤ sum_to ins' t) × (sum_to departed t ≤ sum_to (stage_part (length trace) (stages - 1) outs') t) × (sum_to drops' t ≤ sum_to dropped t)
  path_rival_loses =
      any_rival_loses _ (delay_limit d) _ _ trace ins' drops' _ (path_run-lowest-loss stages first second third fourth d q trace ins drops outs verdict ins' drops' outs' ran accepted)
      (sum_to admitted) (sum_to departed) (sum_to dropped) permitted counted

  -- Without it, at most as many have left it ..
  pub path_rival-departs : (t : ℕ) → t ≤ length trace → sum_to departed t ≤ sum_to (stage_part (length trace) (stages - 1) outs') t
  path_rival-departs =
      any_rival-departs _ (delay_limit d) _ _ trace ins' drops' _ (path_run-lowest-loss stages first second third fourth d q trace ins drops outs verdict ins' drops' outs' ran accepted)
      (sum_to admitted) (sum_to departed) (sum_to dropped) permitted counted

  -- .. and by a slot whose deadline lies in the trace it has admitted at most as many and dropped at least as many.
  pub path_rival_loses_due : (t n : ℕ) → delay_limit d ≡ at_most n → t + n ≤ length trace → (sum_to admitted t ≤ sum_to ins' t) × (sum_to drops' t ≤ sum_to dropped t)
  path_rival_loses_due =
      any_rival_loses_due _ (delay_limit d) _ _ trace ins' drops' _ (path_run-lowest-loss stages first second third fourth d q trace ins drops outs verdict ins' drops' outs' ran accepted)
      (sum_to admitted) (sum_to departed) (sum_to dropped) permitted counted
