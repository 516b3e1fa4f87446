-- What a run drops adds up to the loss, which fits in 32 bits.
use mathlib.Core.Path.{◌≡◌, refl, sym, ap, ◌∙◌}
use mathlib.Core.List.{List}
use Prim.Native.Nat.{ℕ, zero, suc, ◌+◌, ◌*◌, ◌≤◌, ◌<◌}
use native.Mathlib.Omega.{arith}
use native.Mathlib.Numerals.{add-one}
use lib.ListN.{length, get_or, take}
use lib.Seq.{length-take-le, take_all}
use Rattle.std.specs.List.{sum}
use Rattle.std.proofs.lemmas.List.Sums.{sum_by_more}
use Rattle.calculus.specs.Regulators.Clipper.{arrived}
use Rattle.calculus.specs.Regulators.Regulator.{lost}
use Rattle.calculus.specs.Envelopes.Envelope.{windows, ClosedEnvelope}
use Rattle.calculus.specs.Regulators.Trace.{arrivals, sum_to}
use Rattle.calculus.specs.Regulators.Rows.{envelope_of, lost_by, dropped_row}
use Rattle.calculus.proofs.Regulators.Clipper.{arrived-zero}
use Rattle.calculus.proofs.Regulators.Regulator.{lost_rises}
use Rattle.calculus.proofs.Regulators.Trace.{slot_counts-sum, length-slot_counts}
use Rattle.orders.specs.Verdict.{Verdict}
use Rattle.refusals.specs.Limits.{delay_limit, buffer_limit}
use Rattle.refusals.proofs.AcceptedSettings.{envelope_closed, set_up-accepted}
use Rattle.refusals.specs.WholeTrace.{run_refusal}
use Rattle.trace.specs.WholeTrace.{Ran}
use Rattle.orders.specs.Answered.{unless_refused}
use Rattle.trace.proofs.RunAnswer.{run-accepted}

-- A list's sum, number after number.
sum-first : (list : List ℕ) (t : ℕ) → t ≤ length list → sum (take t list) ≡ sum_to list t
unfolding sum_to
sum-first list zero p = refl
sum-first list (suc t) p =
    let more : t + 1 ≡ suc t = add-one t in
    rw (← more) (sum_by_more (λ x. x) list t 0 (omega arith)) ∙ ap (λ (n : ℕ). n + get_or list t 0) (sum-first list t (omega arith))

pub sum_all : (list : List ℕ) → sum list ≡ sum_to list (length list)
sum_all list = ap sum (sym (take_all (length list) list (omega arith))) ∙ sum-first list (length list) (omega arith)

-- The dropped packets of a run add up to the loss, which fits in 32 bits.
module _ (table : List ℕ) (d q : ℕ) (trace : List ℕ) (ins drops outs : ℕ) (none : run_refusal table d q trace ins drops outs ≡ 0) where
  abbrev F : ℕ → ℕ → ℕ
  F = windows (envelope_of table)

  abbrev row : List ℕ
  row = dropped_row table (delay_limit d) (buffer_limit q) trace

  dropped-sum : (t : ℕ) → t ≤ length trace → sum_to row t ≡ lost_by table (delay_limit d) (buffer_limit q) trace t
  unfolding dropped_row lost_by
  dropped-sum =
      let ok = run-accepted table d q trace ins drops outs none in
      let closed = envelope_closed table d q (set_up-accepted table d q ok.set_up) in
      slot_counts-sum (lost F (delay_limit d) (buffer_limit q) (arrivals trace)) (length trace) (lost_none closed) (lost_rises F closed (delay_limit d) (buffer_limit q) (arrivals trace))
    where
      lost_none : (closed : ClosedEnvelope F) → lost F (delay_limit d) (buffer_limit q) (arrivals trace) 0 ≡ 0
      lost_none closed = unfold lost in omega (arith, arrived-zero (arrivals trace))

  arrivals_few : ((k : ℕ) → get_or trace k 0 ≤ 1000000) → (s : ℕ) → arrived (arrivals trace) s ≤ s * 1000000
  unfolding arrived arrivals
  arrivals_few few zero = omega arith
  arrivals_few few (suc s) = omega (arith, arrivals_few few s, few s)

  lost_small : (t : ℕ) → t ≤ length trace → lost_by table (delay_limit d) (buffer_limit q) trace t < 4294967296
  unfolding lost_by lost
  lost_small t p =
      let ok = run-accepted table d q trace ins drops outs none in
      omega (arith, arrivals_few ok.traced.few t, ok.traced.short)

  pub row_long : length row ≡ length trace
  unfolding dropped_row
  row_long = length-slot_counts _ (length trace)

  pub row_total : (list : List ℕ) → list ≡ row → sum list ≡ lost_by table (delay_limit d) (buffer_limit q) trace (length trace)
  row_total list e = ap sum e ∙ sum_all row ∙ ap (sum_to row) row_long ∙ dropped-sum (length trace) (omega arith)

  pub row_fits : (list : List ℕ) → list ≡ row → sum list < 4294967296
  row_fits list e = omega (arith, row_total list e, lost_small (length trace) (omega arith))

-- An accepted run's list of drops.
pub ran-drops : (table : List ℕ) (d q : ℕ) (trace ins drops outs : List ℕ) (verdict : Verdict) (ins' drops' outs' : List ℕ)
    → Ran table d q trace ins drops outs verdict ins' drops' outs' → run_refusal table d q trace (length ins) (length drops) (length outs) ≡ 0
    → drops' ≡ dropped_row table (delay_limit d) (buffer_limit q) trace
unfolding unless_refused
ran-drops table d q trace ins drops outs verdict ins' drops' outs' ran none = rw none at ran.dropped

-- A run has at most 4,096 slots, and any lists of the trace's length will do.
pub run_short : (table : List ℕ) (d q : ℕ) (trace : List ℕ) (ins drops outs : ℕ) → run_refusal table d q trace ins drops outs ≡ 0 → length trace ≤ 4096
run_short table d q trace ins drops outs none = (run-accepted table d q trace ins drops outs none).traced.short

pub run_parts : (table : List ℕ) (d q : ℕ) (trace : List ℕ) → run_refusal table d q trace (length trace) (length trace) (length trace) ≡ 0
    → (ins drops outs : List ℕ) → length ins ≡ 4096 → length drops ≡ 4096 → length outs ≡ 4096
    → run_refusal table d q trace (length (take (length trace) ins)) (length (take (length trace) drops)) (length (take (length trace) outs)) ≡ 0
run_parts table d q trace none ins drops outs l1 l2 l3 =
    let short : length trace ≤ 4096 = run_short table d q trace _ _ _ none in
    rw (length-take-le (length trace) ins (omega arith), length-take-le (length trace) drops (omega arith), length-take-le (length trace) outs (omega arith)) none
