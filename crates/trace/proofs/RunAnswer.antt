-- What a run answers and leaves, refused or accepted.
use mathlib.Core.Path.{◌≡◌, refl, sym, ap, ◌∙◌}
use mathlib.Core.List.{List}
use Prim.Native.Nat.{ℕ, ◌+◌, ◌≤◌}
use native.Mathlib.Omega.{arith}
use lib.ListN.{length, get_or}
use lib.Dec.{ltb}
use borrow.Author.Tests.{ltb-false}
use Rattle.orders.proofs.Answered.{filled_refused, filled-accepted}
use Rattle.orders.specs.Refusal.{◌when◌, ◌or_else◌}
use Rattle.refusals.specs.Table.{table_refusal, last_window}
use Rattle.settings.specs.Taken.{envelope_from, taken, Taken}
use Rattle.envelope.specs.Envelope.{near_to}
use Rattle.orders.specs.Verdict as verdict
use Rattle.orders.proofs.Refusals.{or_else_none, when_none}
use Rattle.refusals.proofs.TableJudged.{table-accepted}
use Rattle.settings.proofs.TakenTable.{taken-accepted}
use Rattle.settings.proofs.Accepted.{length-near_to, near_to-accepted, near_to_small}
use Rattle.settings.specs.LookedAhead.{looked_ahead}
use Rattle.settings.proofs.LookedAhead.{looks-ahead}
use Rattle.calculus.specs.Regulators.Rows.{admitted_row, dropped_row, departed_row}
use Rattle.refusals.specs.Limits.{delay_limit, buffer_limit, set_up_refusal}
use Rattle.refusals.proofs.AcceptedSettings.{no-delay, no_buffer, limits_none}
use Rattle.refusals.specs.Lengths.{length_refusal, lists_refusal}
use Rattle.refusals.proofs.Measured.{list_same}
use Rattle.refusals.specs.WholeTrace.{trace_refusal, run_refusal, alone_refusal}
use Rattle.trace.specs.WholeTrace.{Ran, RanAlone}
use Rattle.trace.specs.RunWork.{Workable, Windowed}
use Rattle.refusals.proofs.TraceCounts.{counts_few}

-- what a trace and lists that get no number are known to have
pub record AcceptedTrace (trace : List ℕ) (ins drops outs : ℕ) : Type 0 where
  pub short : length trace ≤ 4096
  pub long_ins : ins ≡ length trace
  pub long_drops : drops ≡ length trace
  pub long_outs : outs ≡ length trace
  pub few : (k : ℕ) → get_or trace k 0 ≤ 1000000

pub trace-accepted : (trace : List ℕ) (ins drops outs : ℕ) → trace_refusal trace ins drops outs ≡ 0 → AcceptedTrace trace ins drops outs
unfolding trace_refusal length_refusal
trace-accepted trace ins drops outs e =
    let (short, later) = or_else_none (10 when ltb 4096 (length trace)) _ e in
    let (lists, counts) = or_else_none (lists_refusal (length trace) ins or_else lists_refusal (length trace) drops or_else lists_refusal (length trace) outs) _ later in
    let (first, rest) = or_else_none (lists_refusal (length trace) ins) _ lists in
    let (second, third) = or_else_none (lists_refusal (length trace) drops) _ rest in
    record {
      short = ltb-false 4096 (length trace) (when_none 9 (ltb 4096 (length trace)) short);
      long_ins = list_same (length trace) ins first;
      long_drops = list_same (length trace) drops second;
      long_outs = list_same (length trace) outs third;
      few = counts_few trace counts;
    }

-- what a run that gets no number is known to have
pub record AcceptedRun (table : List ℕ) (d q : ℕ) (trace : List ℕ) (ins drops outs : ℕ) : Type 0 where
  pub set_up : set_up_refusal table d q ≡ 0
  pub traced : AcceptedTrace trace ins drops outs

pub run-accepted : (table : List ℕ) (d q : ℕ) (trace : List ℕ) (ins drops outs : ℕ) → run_refusal table d q trace ins drops outs ≡ 0
    → AcceptedRun table d q trace ins drops outs
unfolding run_refusal
run-accepted table d q trace ins drops outs e =
    let (set, traced) = or_else_none (set_up_refusal table d q) _ e in
    record { set_up = set; traced = trace-accepted trace ins drops outs traced }

-- The slots of a run that gets no number can be worked.
pub run_workable : (table : List ℕ) (d q : ℕ) (trace : List ℕ) (ins drops outs : ℕ) → run_refusal table d q trace ins drops outs ≡ 0
    → Workable table d q trace ins drops outs
unfolding run_refusal set_up_refusal
run_workable table d q trace ins drops outs e =
    let (set, traced) = or_else_none (set_up_refusal table d q) _ e in
    let (tabled, limits) = or_else_none (table_refusal table) _ set in
    let (delayed, buffered, _) = limits_none d q limits in
    record { tabled = tabled; delayed = delayed; buffered = buffered; traced = traced }

-- So can those of the regulator alone, whose limits are none.
pub alone_workable : (table trace : List ℕ) (ins drops outs : ℕ) → alone_refusal table trace ins drops outs ≡ 0
    → Workable table 255 4294967295 trace ins drops outs
unfolding alone_refusal
alone_workable table trace ins drops outs e =
    let (tabled, traced) = or_else_none (table_refusal table) _ e in
    record { tabled = tabled; delayed = no-delay.0; buffered = no_buffer.0; traced = traced }

module _ (table : List ℕ) (d q : ℕ) (trace ins drops outs : List ℕ) where
  abbrev number : ℕ
  number = run_refusal table d q trace (length ins) (length drops) (length outs)

  -- A refused run gives its number, and the lists are as they were.
  pub run_refused : (k : ℕ) → (k ≡ 0 → ⊥) → k ≡ number → Ran table d q trace ins drops outs (verdict.Refused k) ins drops outs
  run_refused = filled_refused number _ _ _ ins drops outs

  -- An accepted run fills the lists with theorem 5.1's rows.
  pub run_filled : number ≡ 0 → (ins' drops' outs' : List ℕ)
      → (ins' ≡ admitted_row table (delay_limit d) (buffer_limit q) trace) × (drops' ≡ dropped_row table (delay_limit d) (buffer_limit q) trace) × (outs' ≡ departed_row table (delay_limit d) (buffer_limit q) trace)
      → Ran table d q trace ins drops outs verdict.Accepted ins' drops' outs'
  run_filled = filled-accepted number _ _ _ ins drops outs

module _ (table trace ins drops outs : List ℕ) where
  abbrev number-alone : ℕ
  number-alone = alone_refusal table trace (length ins) (length drops) (length outs)

  -- The same of the regulator alone, whose rows are those with both limits none.
  pub alone_refused : (k : ℕ) → (k ≡ 0 → ⊥) → k ≡ number-alone → RanAlone table trace ins drops outs (verdict.Refused k) ins drops outs
  alone_refused = filled_refused number-alone _ _ _ ins drops outs

  pub alone_filled : number-alone ≡ 0 → (ins' drops' outs' : List ℕ)
      → (ins' ≡ admitted_row table (delay_limit 255) (buffer_limit 4294967295) trace) × (drops' ≡ dropped_row table (delay_limit 255) (buffer_limit 4294967295) trace) × (outs' ≡ departed_row table (delay_limit 255) (buffer_limit 4294967295) trace)
      → RanAlone table trace ins drops outs verdict.Accepted ins' drops' outs'
  alone_filled done ins' drops' outs' rows =
      filled-accepted number-alone _ _ _ ins drops outs done ins' drops' outs' (rw (no-delay.1, no_buffer.1) at rows)

-- What is taken of an accepted table is f, as far as a run looks.
pub table_windowed : (table : List ℕ) (d last : ℕ) → table_refusal table ≡ 0 → last_window table + looked_ahead d ≤ last → (t : Taken) → t ≡ taken table
    → (windows : List ℕ) → windows ≡ near_to t.envelope last → Windowed table d windows
table_windowed table d last none reach t made windows filled =
    let ok = table-accepted table none in
    let whole : t ≡ record { verdict = verdict.Accepted; envelope = envelope_from table } = made ∙ sym (taken-accepted table none) in
    let same : windows ≡ near_to (envelope_from table) last = filled ∙ ap (λ (z : Taken). near_to z.envelope last) whole in
    record {
      long = rw same (length-near_to table ok last);
      near = λ k p. rw same (near_to-accepted table ok last k (omega arith) (omega (arith, ok.last_to, (looks-ahead {d = d} refl).0)));
      small = λ k. rw same (near_to_small table ok last k);
    }
