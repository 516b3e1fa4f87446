-- All that is claimed of a list of slot calls from a live regulator that a set-up gave.
use Rattle.std.specs.Prelude.{◌≡◌, ℕ, suc, ◌+◌, ◌-◌, ◌≤◌, ◌<◌, List, length, get_or}
use Rattle.calculus.specs.Numbers.Limit.{at_most}
use Rattle.calculus.specs.Numbers.Sizes.{row_places}
use Rattle.calculus.specs.Envelopes.Envelope.{windows}
use Rattle.calculus.specs.Regulators.Ahead.{ahead}
use Rattle.calculus.specs.Regulators.Rows.{envelope_of, admitted_by, departed_by}
use Rattle.refusals.specs.Table.{last_window}
use Rattle.refusals.specs.Limits.{delay_limit, buffer_limit}
use Rattle.regulator.specs.Regulator.{slot_of}
use Rattle.calls.specs.Calls.{Machine, after, trace_of}
use Rattle.calls.specs.CallsRun.{CallsRun}
use Rattle.regulator.specs.declared.regulator.Regulator.{Regulator}

-- the live regulator as a machine that takes slots
unfoldable pub live_regulator : Machine Regulator
live_regulator =
    record {
      answer = λ r n. (slot_of r n).answer;
      next = λ r n. (slot_of r n).regulator;
      slots = λ r. r.slots.0;
      admits = λ r. r.admitted.0;
      form_peak = λ r. r.form_peak.0;
      bench_peak = λ r. r.bench_peak.0;
    }

pub record LiveRun (table : List ℕ) (d q : ℕ) (r : Regulator) (calls : List ℕ) : Type 0 where
  -- What is claimed of every machine that takes slots, with the table's closure.
  pub run : CallsRun live_regulator (envelope_of table) (delay_limit d) (buffer_limit q) r calls
  -- The regulator that is left has its settings, and keeps the last L departed totals.
  pub settings_left : (after live_regulator r calls).settings ≡ r.settings
  pub past_left : (k : ℕ) → k < last_window table
      → get_or (after live_regulator r calls).row k 0 ≡ departed_by table (delay_limit d) (buffer_limit q) (trace_of calls) (length (trace_of calls) - k)
  -- After a slot, the t+1-st, the row's places 64 and 65 hold its forecasts: what the packets admitted by slot t, and the envelope, let
  -- depart by slot t+1 and by its deadline t+1+d. All other places are 0.
  pub soon_left : (t : ℕ) → length (trace_of calls) ≡ suc t
      → get_or (after live_regulator r calls).row 64 0 ≡ ahead (admitted_by table (delay_limit d) (buffer_limit q) (trace_of calls)) (windows (envelope_of table)) t (suc t)
  pub late_left : (t n : ℕ) → length (trace_of calls) ≡ suc t → delay_limit d ≡ at_most n
      → get_or (after live_regulator r calls).row 65 0 ≡ ahead (admitted_by table (delay_limit d) (buffer_limit q) (trace_of calls)) (windows (envelope_of table)) t (suc t + n)
  pub rest_left : (k : ℕ) → last_window table ≤ k → k < row_places → (k ≡ 64 → ⊥) → (k ≡ 65 → ⊥) → get_or (after live_regulator r calls).row k 0 ≡ 0
  pub row_long : length (after live_regulator r calls).row ≡ row_places
