-- All that is claimed of a list of slot calls on a machine that takes slots, whatever its states are: demands 1, 2 and 3, the
-- two fills and their peaks (document 02, 2.1). f is the machine's envelope, d and q its limits, s the state it starts from.
use Rattle.std.specs.Prelude.{◌≡◌, ℕ, zero, suc, ◌-◌, ◌≤◌, List, [], ◌∷◌, map, length}
use Rattle.calculus.specs.Numbers.Limit.{Limit, at_most}
use Rattle.calculus.specs.Envelopes.Envelope.{windows}
use Rattle.calculus.specs.Regulators.Clipper.{admitted}
use Rattle.calculus.specs.Regulators.Regulator.{departed, lost, held}
use Rattle.calculus.specs.Regulators.Trace.{arrivals, slot_totals}
use Rattle.calculus.specs.Regulators.Fill.{form_fill_at, bench_fill_at, greatest}
use Rattle.calculus.specs.Losses.LossCurve.{LowestLoss}
use Rattle.live_step.specs.Fill.{form_fill, bench_fill}
use Rattle.calls.specs.Calls.{Machine, answers, after, trace_of, counted, admitted_in, dropped_in, departed_in, numbers_from, number_of, unrefused}
use Rattle.live_step.specs.declared.record.SlotRecord.{SlotRecord}
use Rattle.calls.specs.RefusedCalls.{WithRefused, others}

-- theorem 5.1's record of slot t+1: held before it, X(t) - Y(t), and the packets admitted, dropped and departed in it
unfoldable pub row_after : (ℕ → ℕ → ℕ) → Limit → Limit → (ℕ → ℕ) → ℕ → SlotRecord
row_after F d q a t =
    record {
      held_before = held F d q a t;
      admitted = admitted F d q a (suc t) - admitted F d q a t;
      dropped = lost F d q a (suc t) - lost F d q a t;
      departed = departed F d q a (suc t) - departed F d q a t;
    }

-- theorem 5.1's records of the n slots after slot t
unfoldable pub rows_after : (ℕ → ℕ → ℕ) → Limit → Limit → (ℕ → ℕ) → ℕ → ℕ → List SlotRecord
rows_after F d q a t zero = []
rows_after F d q a t (suc n) = row_after F d q a t ∷ rows_after F d q a (suc t) n

pub record CallsRun {S : Type 0} (m : Machine S) (f : ℕ → ℕ) (d q : Limit) (s : S) (calls : List ℕ) : Type 0 where
  -- Every call gets the number that the rules give it, and the trace is the calls that get none.
  pub numbered : map number_of (answers m s calls) ≡ numbers_from 0 calls
  pub traced : trace_of calls ≡ unrefused (numbers_from 0 calls) calls
  -- The records answered, slot by slot, are theorem 5.1's over the entire history.
  pub rows : counted (answers m s calls) ≡ rows_after (windows f) d q (arrivals (trace_of calls)) 0 (length (trace_of calls))
  -- Read by the order form a record is X(t) - Y(t), by the bench X(t) - Y(t-1).
  pub form_fills : map form_fill (counted (answers m s calls)) ≡ slot_totals (form_fill_at (windows f) d q (arrivals (trace_of calls))) (length (trace_of calls))
  pub bench_fills : map bench_fill (counted (answers m s calls)) ≡ slot_totals (bench_fill_at (windows f) d q (arrivals (trace_of calls))) (length (trace_of calls))
  -- The state that is left has taken the trace's slots and admitted X(T), and carries the greatest of each fill over slots 1
  -- to T, 0 where T is 0.
  pub slots_left : m.slots (after m s calls) ≡ length (trace_of calls)
  pub admitted_left : m.admits (after m s calls) ≡ admitted (windows f) d q (arrivals (trace_of calls)) (length (trace_of calls))
  pub form_peak_left : m.form_peak (after m s calls) ≡ greatest (form_fill_at (windows f) d q (arrivals (trace_of calls))) (length (trace_of calls))
  pub bench_peak_left : m.bench_peak (after m s calls) ≡ greatest (bench_fill_at (windows f) d q (arrivals (trace_of calls))) (length (trace_of calls))
  -- Where q is a number, both peaks are at most q (document 02, 2.9).
  pub form_peak_within : (n : ℕ) → q ≡ at_most n → m.form_peak (after m s calls) ≤ n
  pub bench_peak_within : (n : ℕ) → q ≡ at_most n → m.bench_peak (after m s calls) ≤ n
  -- Refused calls put anywhere into the list leave the same state, and all other answers are the same.
  pub refused_left : (more : List ℕ) → WithRefused m s calls more → after m s more ≡ after m s calls
  pub refused-others : (more : List ℕ) (put : WithRefused m s calls more) → others put (answers m s more) ≡ answers m s calls
  -- No permitted pair loses less.
  pub lowest : LowestLoss (windows f) d q (trace_of calls) (admitted_in (answers m s calls)) (dropped_in (answers m s calls)) (departed_in (answers m s calls))
