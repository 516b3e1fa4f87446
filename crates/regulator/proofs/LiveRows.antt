-- What a fresh live regulator answers is theorem 5.1's rows of the accepted calls; a trace that a run accepts is accepted whole.
use mathlib.Core.Path.{◌≡◌, refl, ap, ◌∙◌}
use mathlib.Core.List.{List, [], ◌∷◌, map}
use Prim.Native.Nat.{ℕ, suc, ◌+◌, ◌≤◌}
use native.Mathlib.Omega.{arith}
use lib.ListN.{length, get_or}
use borrow.Author.Tests.{le-leb, lt-ltb}
use Rattle.calculus.specs.Envelopes.Envelope.{windows}
use Rattle.calculus.specs.Regulators.Trace.{arrivals}
use Rattle.calculus.specs.Regulators.Rows.{envelope_of, admitted_by, lost_by, departed_by, admitted_row, dropped_row, departed_row}
use Rattle.orders.specs.Refusal.{pick}
use Rattle.orders.specs.Verdict.{Accepted}
use Rattle.refusals.specs.Limits.{delay_limit, buffer_limit, set_up_refusal}
use Rattle.calls.specs.Calls.{answers, trace_of, accepted_from, admitted_in, dropped_in, departed_in}
use Rattle.calls.proofs.RecordColumns.{rows-admitted, rows_dropped, rows-departed}
use Rattle.live_step.specs.declared.record.SlotRecord.{SlotRecord}
use Rattle.regulator.specs.Regulator.{set_up_by, set_up_of}
use Rattle.regulator.specs.LiveRun.{live_regulator}
use Rattle.regulator.specs.LiveRows.{LiveRows}
use Rattle.regulator.proofs.LiveLowestLoss.{live_run}

-- A trace of at most 1,000,000 slots with at most 1,000,000 arrivals in each is accepted whole, call by call.
accepted_all : (taken : ℕ) (trace : List ℕ) → taken + length trace ≤ 1000000 → ((k : ℕ) → get_or trace k 0 ≤ 1000000) → accepted_from taken trace ≡ trace
unfolding accepted_from pick
accepted_all taken [] short few = refl
accepted_all taken (n ∷ trace) short few =
    rw (le-leb n 1000000 (few 0), lt-ltb taken 1000000 (omega arith)) (ap (λ (l : List ℕ). n ∷ l) (accepted_all (suc taken) trace (omega arith) (λ k. few (suc k))))

-- A set-up that gets no number is accepted.
set_up-made : (table : List ℕ) (d q : ℕ) → set_up_refusal table d q ≡ 0 → (set_up_of table d q).verdict ≡ Accepted
unfolding set_up_of set_up_by
set_up-made table d q none = rw none refl

-- Whatever the calls, the counts answered are the rows of the trace that they are.
module _ (table : List ℕ) (d q : ℕ) (accepted : (set_up_of table d q).verdict ≡ Accepted) (calls : List ℕ) where
  pub live-admitted : admitted_in (answers live_regulator (set_up_of table d q).regulator calls) ≡ admitted_row table (delay_limit d) (buffer_limit q) (trace_of calls)
  unfolding admitted_in admitted_row admitted_by
  live-admitted =
      ap (map (λ (c : SlotRecord). c.admitted)) (live_run table d q accepted calls).run.rows
      ∙ rows-admitted (windows (envelope_of table)) (delay_limit d) (buffer_limit q) (arrivals (trace_of calls)) (length (trace_of calls))

  pub live_dropped : dropped_in (answers live_regulator (set_up_of table d q).regulator calls) ≡ dropped_row table (delay_limit d) (buffer_limit q) (trace_of calls)
  unfolding dropped_in dropped_row lost_by
  live_dropped =
      ap (map (λ (c : SlotRecord). c.dropped)) (live_run table d q accepted calls).run.rows
      ∙ rows_dropped (windows (envelope_of table)) (delay_limit d) (buffer_limit q) (arrivals (trace_of calls)) (length (trace_of calls))

  pub live-departed : departed_in (answers live_regulator (set_up_of table d q).regulator calls) ≡ departed_row table (delay_limit d) (buffer_limit q) (trace_of calls)
  unfolding departed_in departed_row departed_by
  live-departed =
      ap (map (λ (c : SlotRecord). c.departed)) (live_run table d q accepted calls).run.rows
      ∙ rows-departed (windows (envelope_of table)) (delay_limit d) (buffer_limit q) (arrivals (trace_of calls)) (length (trace_of calls))

-- So a fresh live regulator answers theorem 5.1's rows of every trace that it can take.
pub live_rows : (table : List ℕ) (d q : ℕ) (trace : List ℕ) → set_up_refusal table d q ≡ 0 → length trace ≤ 1000000 → ((k : ℕ) → get_or trace k 0 ≤ 1000000)
    → LiveRows table d q trace (admitted_row table (delay_limit d) (buffer_limit q) trace) (dropped_row table (delay_limit d) (buffer_limit q) trace)
    (departed_row table (delay_limit d) (buffer_limit q) trace)
unfolding trace_of
live_rows table d q trace none short few =
    let made = set_up-made table d q none in
    let traced : trace_of trace ≡ trace = accepted_all 0 trace (omega arith) few in
    record {
      set_up = made;
      traced = traced;
      admits = live-admitted table d q made trace ∙ ap (admitted_row table (delay_limit d) (buffer_limit q)) traced;
      dropped = live_dropped table d q made trace ∙ ap (dropped_row table (delay_limit d) (buffer_limit q)) traced;
      departs = live-departed table d q made trace ∙ ap (departed_row table (delay_limit d) (buffer_limit q)) traced;
    }
