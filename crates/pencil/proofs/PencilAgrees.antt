-- Request 2.14: for every accepted set-up the pencil version agrees with a fresh live regulator and the whole-trace run on each trace that it
-- accepts.
use mathlib.Core.Path.{◌≡◌, sym, ◌∙◌}
use mathlib.Core.List.{List}
use Prim.Native.Nat.{ℕ, ◌≤◌}
use native.Mathlib.Omega.{arith}
use lib.ListN.{length}
use Rattle.calculus.specs.Numbers.Limit.{delay_limit, buffer_limit}
use Rattle.calculus.specs.Regulators.Rows.{admitted_row, dropped_row, departed_row}
use Rattle.pencil_calculus.proofs.Pencil.{pencil-admitted_row, pencil-dropped_row, pencil-departed_row}
use Rattle.orders.specs.Refusal.{◌or_else◌}
use Rattle.orders.specs.Verdict.{Verdict, Accepted}
use Rattle.refusals.proofs.TableJudged.{table_given, table-accepted}
use Rattle.refusals.specs.Limits.{set_up_refusal}
use Rattle.refusals.specs.Lengths.{counts_refusal}
use Rattle.orders.specs.Answered.{verdict_of, unless_refused}
use Rattle.orders.proofs.Answered.{accepted_none}
use Rattle.refusals.proofs.TraceCounts.{counts_few}
use Rattle.refusals.proofs.Measured.{same_list, most-length}
use Rattle.refusals.proofs.AcceptedSettings.{set_up-table}
use Rattle.refusals.specs.WholeTrace.{trace_refusal, run_refusal}
use Rattle.trace.specs.WholeTrace.{Ran}
use Rattle.pencil.specs.PencilRun.{pencil_refusal, PencilRan}
use Rattle.pencil.proofs.RunAnswer.{AcceptedPencil, pencil-accepted}
use Rattle.regulator.specs.LiveRows.{LiveRows}
use Rattle.regulator.proofs.LiveRows.{live_rows}
use Rattle.pencil.specs.Agreed.{Agreed}

-- A run of a set-up, a trace and lists that get no number gets none.
pub or_else_both : (first second : ℕ) → first ≡ 0 → second ≡ 0 → first or_else second ≡ 0
unfolding ◌or_else◌
or_else_both first second e f = rw e f

run-taken : (table : List ℕ) (d q : ℕ) (trace : List ℕ) (a b c : ℕ) → set_up_refusal table d q ≡ 0 → length trace ≤ 4096 → a ≡ length trace → b ≡ length trace → c ≡ length trace
    → counts_refusal trace ≡ 0 → run_refusal table d q trace a b c ≡ 0
unfolding run_refusal trace_refusal
run-taken table d q trace a b c set short e1 e2 e3 counts =
    let T = length trace in
    or_else_both _ _ set (or_else_both _ _ (most-length T short)
    (or_else_both _ _ (or_else_both _ _ (same_list T a e1) (or_else_both _ _ (same_list T b e2) (same_list T c e3))) counts))

module _ (table : List ℕ) (d q : ℕ) (trace : List ℕ) (ins drops outs : List ℕ) (none : pencil_refusal table d q trace (length ins) (length drops) (length outs) ≡ 0) where
  ok : AcceptedPencil table d q trace (length ins) (length drops) (length outs)
  ok = pencil-accepted table d q trace (length ins) (length drops) (length outs) none

  -- What a fresh live regulator answers are theorem 5.1's rows.
  answered : LiveRows table d q trace (admitted_row table (delay_limit d) (buffer_limit q) trace) (dropped_row table (delay_limit d) (buffer_limit q) trace)
      (departed_row table (delay_limit d) (buffer_limit q) trace)
  answered = live_rows table d q trace ok.set_up (omega (arith, ok.short)) (counts_few trace ok.counts)

  -- So are the run's lists.
  run_agrees : (a b c a' b' c' : List ℕ) (verdict : Verdict) → length a ≡ length trace → length b ≡ length trace → length c ≡ length trace
      → Ran table d q trace a b c verdict a' b' c'
      → (verdict ≡ Accepted) × (a' ≡ admitted_row table (delay_limit d) (buffer_limit q) trace) × (b' ≡ dropped_row table (delay_limit d) (buffer_limit q) trace)
      × (c' ≡ departed_row table (delay_limit d) (buffer_limit q) trace)
  unfolding verdict_of unless_refused
  run_agrees a b c a' b' c' verdict e1 e2 e3 ran =
      let taken = run-taken table d q trace (length a) (length b) (length c) ok.set_up (omega (arith, ok.short)) e1 e2 e3 ok.counts in
      (rw taken at ran.answered, rw taken at ran.admits, rw taken at ran.dropped, rw taken at ran.departs)

-- The theorem.
pub pencil_agrees : (table : List ℕ) (d q : ℕ) (trace ins drops outs ins' drops' outs' : List ℕ) → PencilRan table d q trace ins drops outs Accepted ins' drops' outs'
    → Agreed table d q trace ins' drops' outs'
unfolding unless_refused
pencil_agrees table d q trace ins drops outs ins' drops' outs' ran =
    let none = accepted_none _ ran.answered in
    let given = table_given table (table-accepted table (set_up-table table d q (ok table d q trace ins drops outs none).set_up)) in
    let e1 : ins' ≡ admitted_row table (delay_limit d) (buffer_limit q) trace = rw none at ran.admits ∙ pencil-admitted_row table given (delay_limit d) (buffer_limit q) trace in
    let e2 : drops' ≡ dropped_row table (delay_limit d) (buffer_limit q) trace = rw none at ran.dropped ∙ pencil-dropped_row table given (delay_limit d) (buffer_limit q) trace in
    let e3 : outs' ≡ departed_row table (delay_limit d) (buffer_limit q) trace = rw none at ran.departs ∙ pencil-departed_row table given (delay_limit d) (buffer_limit q) trace in
    record {
      run = λ a b c a' b' c' verdict l1 l2 l3 r.
          let (taken, f1, f2, f3) = run_agrees table d q trace ins drops outs none a b c a' b' c' verdict l1 l2 l3 r in
          (taken, f1 ∙ sym e1, f2 ∙ sym e2, f3 ∙ sym e3);
      live = rw (e1, e2, e3) (answered table d q trace ins drops outs none);
    }
