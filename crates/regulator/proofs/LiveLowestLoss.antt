-- Demands 1, 2 and 3 for the live regulator, its fills and peaks: every accepted set-up and every list of slot calls, refused ones
-- included. Nothing is assumed of a call but what the slot's contract says.
use mathlib.Core.Path.{◌≡◌}
use mathlib.Core.List.{List}
use Prim.Native.Nat.{ℕ}
use Rattle.calculus.specs.Regulators.Rows.{envelope_of, admitted_by, departed_by}
use Rattle.orders.specs.Verdict.{Accepted}
use Rattle.refusals.specs.Limits.{delay_limit, buffer_limit}
use Rattle.regulator.specs.Regulator.{fresh_regulator, set_up_of}
use Rattle.regulator.specs.LiveRun.{live_regulator, LiveRun}
use Rattle.refusals.proofs.AcceptedSettings.{Accepted as AcceptedSettings, set_up-accepted, envelope_closed}
use Rattle.calls.proofs.CallsRun.{calls_run, run_reached}
use Rattle.regulator.proofs.LiveMachine.{Reached, regulator_takes, fresh_starts}
use Rattle.regulator.proofs.FreshRegulator.{set_up_verdict}

fresh_run : (table : List ℕ) (d q : ℕ) → AcceptedSettings table (delay_limit d) (buffer_limit q) → (calls : List ℕ) → LiveRun table d q (fresh_regulator table d q) calls
unfolding fresh_regulator admitted_by departed_by
fresh_run table d q ok calls =
    let left = run_reached live_regulator regulator_takes (envelope_of table) (envelope_closed table d q ok) (delay_limit d) (buffer_limit q) (fresh_regulator table d q) (Reached table d q ok) (fresh_starts table d q ok) calls in
    record {
      run = calls_run live_regulator regulator_takes (envelope_of table) (envelope_closed table d q ok) (delay_limit d) (buffer_limit q) (fresh_regulator table d q) (Reached table d q ok) (fresh_starts table d q ok) calls;
      settings_left = left.settled;
      past_left = left.follows.past;
      soon_left = left.follows.soon;
      late_left = left.follows.late;
      rest_left = left.follows.rest;
      row_long = left.follows.long;
    }

-- The theorem.
pub live_run : (table : List ℕ) (d q : ℕ) → (set_up_of table d q).verdict ≡ Accepted → (calls : List ℕ) → LiveRun table d q (set_up_of table d q).regulator calls
live_run table d q accepted calls =
    let (none, fresh) = set_up_verdict table d q accepted in
    rw fresh (fresh_run table d q (set_up-accepted table d q none) calls)
