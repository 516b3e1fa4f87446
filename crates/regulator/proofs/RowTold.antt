-- What the row that is left tells: each place of the past is what has been answered as departed by its slot, the newest first, and the
-- last slot let depart the smaller of what was admitted and its first forecast.
use mathlib.Core.Path.{◌≡◌, refl, sym, ap, ◌∙◌}
use mathlib.Core.List.{List}
use Prim.Native.Nat.{ℕ, suc, ◌+◌, ◌-◌, ◌<◌, min}
use native.Mathlib.Omega.{arith}
use lib.ListN.{length, get_or}
use Rattle.calculus.specs.Envelopes.Envelope.{windows, ClosedEnvelope}
use Rattle.calculus.specs.Regulators.Clipper.{admitted}
use Rattle.calculus.specs.Regulators.Trace.{arrivals, sum_to}
use Rattle.calculus.specs.Regulators.Rows.{envelope_of, admitted_by, departed_by}
use Rattle.calculus.proofs.Regulators.Ahead.{departed-ahead}
use Rattle.refusals.specs.Limits.{delay_limit, buffer_limit}
use Rattle.calls.specs.Calls.{answers, after, trace_of, departed_in}
use Rattle.refusals.specs.Table.{last_window}
use Rattle.regulator.specs.declared.regulator.Regulator.{Regulator}
use Rattle.regulator.specs.LiveRun.{live_regulator, LiveRun}

module _ (table : List ℕ) (d q : ℕ) (r : Regulator) (calls : List ℕ) (run : LiveRun table d q r calls) where
  pub past_answered : (k : ℕ) → k < last_window table
      → get_or (after live_regulator r calls).row k 0 ≡ sum_to (departed_in (answers live_regulator r calls)) (length (trace_of calls) - k)
  unfolding departed_by
  past_answered k p = run.past_left k p ∙ sym (run.run.lowest.departed_total (length (trace_of calls) - k) (omega arith))

  pub last-slot : ClosedEnvelope (windows (envelope_of table)) → (t : ℕ) → length (trace_of calls) ≡ suc t
      → departed_by table (delay_limit d) (buffer_limit q) (trace_of calls) (suc t)
      ≡ min (admitted_by table (delay_limit d) (buffer_limit q) (trace_of calls) (suc t)) (get_or (after live_regulator r calls).row 64 0)
  unfolding departed_by admitted_by
  last-slot closed t e =
      let now : suc t + 0 ≡ suc t = omega arith in
      departed-ahead (windows (envelope_of table)) closed (delay_limit d) (buffer_limit q) (arrivals (trace_of calls)) t _ (λ k. refl)
      ∙ ap (min (admitted (windows (envelope_of table)) (delay_limit d) (buffer_limit q) (arrivals (trace_of calls)) (suc t))) (rw now (sym (run.soon_left t e)))
