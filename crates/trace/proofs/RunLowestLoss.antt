-- Demands 2 and 3 for the whole-trace run: whatever its lent lists were, once it is accepted they are theorem 5.1's rows,
-- and no permitted pair loses less. Nothing is assumed of a run but what its contract says.
use mathlib.Core.Path.{◌≡◌, sym, ◌∙◌}
use mathlib.Core.List.{List}
use Prim.Native.Nat.{ℕ}
use lib.ListN.{length}
use Rattle.orders.proofs.Answered.{verdict-accepted}
use Rattle.calculus.specs.Envelopes.Envelope.{windows}
use Rattle.calculus.specs.Regulators.Rows.{envelope_of, admitted_by, departed_by, lost_by, admitted_row, dropped_row, departed_row}
use Rattle.calculus.specs.Losses.LossCurve.{LowestLoss}
use Rattle.calculus.proofs.Losses.LossCurve.{counts-lowest}
use Rattle.orders.specs.Verdict.{Verdict, Accepted}
use Rattle.refusals.specs.Limits.{delay_limit, buffer_limit}
use Rattle.refusals.proofs.AcceptedSettings.{envelope_closed, set_up-accepted}
use Rattle.refusals.specs.WholeTrace.{run_refusal}
use Rattle.trace.specs.WholeTrace.{Ran}
use Rattle.orders.specs.Answered.{unless_refused}
use Rattle.trace.proofs.RunAnswer.{run-accepted}

module _ (table : List ℕ) (d q : ℕ) (trace ins drops outs : List ℕ) (verdict : Verdict) (ins' drops' outs' : List ℕ)
    (ran : Ran table d q trace ins drops outs verdict ins' drops' outs') (accepted : verdict ≡ Accepted) where
  no_number : run_refusal table d q trace (length ins) (length drops) (length outs) ≡ 0
  no_number = verdict-accepted _ (sym ran.answered ∙ accepted)

  -- Demand 2: the lists are theorem 5.1's rows.
  pub run_rows_lem : (ins' ≡ admitted_row table (delay_limit d) (buffer_limit q) trace) × (drops' ≡ dropped_row table (delay_limit d) (buffer_limit q) trace)
      × (outs' ≡ departed_row table (delay_limit d) (buffer_limit q) trace)
  unfolding unless_refused
  run_rows_lem = (rw no_number at ran.admits, rw no_number at ran.dropped, rw no_number at ran.departs)

  -- Demand 3: no permitted pair loses less.
  pub run-lowest-loss : LowestLoss (windows (envelope_of table)) (delay_limit d) (buffer_limit q) trace ins' drops' outs'
  unfolding admitted_row dropped_row departed_row admitted_by departed_by lost_by
  run-lowest-loss =
      let ok = run-accepted table d q trace (length ins) (length drops) (length outs) no_number in
      rw (run_rows_lem.0, run_rows_lem.1, run_rows_lem.2)
      (counts-lowest (windows (envelope_of table)) (envelope_closed table d q (set_up-accepted table d q ok.set_up)) (delay_limit d) (buffer_limit q) trace)
