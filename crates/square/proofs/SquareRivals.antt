-- What anyone who keeps F can claim beside an accepted run with an envelope that varies with time: its rows are any that are permitted for
-- F, and ours are the lists that the run leaves.
use mathlib.Core.Path.{◌≡◌}
use mathlib.Core.List.{List}
use Prim.Native.Nat.{ℕ, ◌+◌, ◌≤◌}
use lib.ListN.{length}
use Rattle.calculus.specs.Numbers.Limit.{at_most}
use Rattle.calculus.specs.Regulators.Clipper.{arrived}
use Rattle.calculus.specs.Regulators.Trace.{arrivals, sum_to}
use Rattle.calculus.specs.Losses.Permitted.{Permitted, Quiet}
use Rattle.calculus.proofs.Losses.Rivals.{any_rival_loses, any_rival-departs, any_rival_loses_due}
use Rattle.square_calculus.specs.Square.{square_envelope}
use Rattle.orders.specs.Verdict.{Verdict, Accepted}
use Rattle.refusals.specs.Limits.{delay_limit, buffer_limit}
use Rattle.square.specs.SquareRun.{SquareRan}
use Rattle.square.proofs.SquareRunLowestLoss.{square_run-lowest-loss}

module _ (square : List (List ℕ)) (d q : ℕ) (trace ins drops outs : List ℕ) (verdict : Verdict) (ins' drops' outs' : List ℕ)
    (ran : SquareRan square d q trace ins drops outs verdict ins' drops' outs') (accepted : verdict ≡ Accepted) (admitted departed dropped : List ℕ)
    (permitted : Permitted (square_envelope square) (delay_limit d) (buffer_limit q) (arrivals trace) (length trace) (sum_to admitted) (sum_to departed))
    (counted : (t : ℕ) → t ≤ length trace → sum_to admitted t + sum_to dropped t ≡ arrived (arrivals trace) t) where
  -- Under demand 3's premise it has admitted and departed at most as many as ours after every slot, and dropped at least as many.
  pub square_rival_loses : Quiet (delay_limit d) (arrivals trace) (length trace) → (t : ℕ) → t ≤ length trace
      → (sum_to admitted t ≤ sum_to ins' t) × (sum_to departed t ≤ sum_to outs' t) × (sum_to drops' t ≤ sum_to dropped t)
  square_rival_loses =
      any_rival_loses _ (delay_limit d) _ _ trace ins' drops' outs' (square_run-lowest-loss square d q trace ins drops outs verdict ins' drops' outs' ran accepted)
      (sum_to admitted) (sum_to departed) (sum_to dropped) permitted counted

  -- Without it, it has departed at most as many ..
  pub square_rival-departs : (t : ℕ) → t ≤ length trace → sum_to departed t ≤ sum_to outs' t
  square_rival-departs =
      any_rival-departs _ (delay_limit d) _ _ trace ins' drops' outs' (square_run-lowest-loss square d q trace ins drops outs verdict ins' drops' outs' ran accepted)
      (sum_to admitted) (sum_to departed) (sum_to dropped) permitted counted

  -- .. and by a slot whose deadline lies in the trace it has admitted at most as many and dropped at least as many.
  pub square_rival_loses_due : (t n : ℕ) → delay_limit d ≡ at_most n → t + n ≤ length trace → (sum_to admitted t ≤ sum_to ins' t) × (sum_to drops' t ≤ sum_to dropped t)
  square_rival_loses_due =
      any_rival_loses_due _ (delay_limit d) _ _ trace ins' drops' outs' (square_run-lowest-loss square d q trace ins drops outs verdict ins' drops' outs' ran accepted)
      (sum_to admitted) (sum_to departed) (sum_to dropped) permitted counted
