-- The stages' rows: each stage's run is accepted, and a turn of the loop adds one stage's row to the list.
use mathlib.Core.Path.{◌≡◌, refl, sym, ap, ◌∙◌}
use mathlib.Core.List.{List, [], ◌++◌, append_assoc}
use Prim.Native.Nat.{ℕ, zero, suc, ◌+◌, ◌-◌, ◌*◌, ◌≤◌, ◌<◌}
use native.Mathlib.Decide.{dec_le}
use native.Mathlib.Nat.{mul-le-mul, mul-le-mul_right}
use native.Mathlib.Numerals.{add-one}
use native.Mathlib.Omega.{arith}
use lib.ListN.{length, get_or, take, drop, length-append, length-drop, get_or-eq_default}
use lib.Seq.{take_at, drop_at, drop-drop, length-take-le}
use borrow.Author.Tests.{le-ltb, eq-eqb}
use Rattle.refusals.proofs.Measured.{counts_none}
use Rattle.calculus.specs.Numbers.Limit.{Limit, none}
use Rattle.calculus.specs.Envelopes.Envelope.{windows, ClosedEnvelope}
use Rattle.calculus.specs.Regulators.Trace.{arrivals, slot_counts}
use Rattle.calculus.specs.Regulators.Rows.{envelope_of, departed_by, departed_row}
use Rattle.calculus.proofs.Envelopes.Envelope.{closure_envelope}
use Rattle.calculus.proofs.Regulators.Regulator.{departed-keeps}
use Rattle.calculus.proofs.Regulators.Trace.{length-slot_counts, slot_counts_at}
use Rattle.orders.specs.Refusal.{◌when◌, ◌or_else◌}
use Rattle.refusals.specs.Table.{table_refusal}
use Rattle.refusals.proofs.TableJudged.{AcceptedTable, table-accepted, table_given}
use Rattle.settings.proofs.Accepted.{envelope_of-bound}
use Rattle.orders.specs.Verdict.{Verdict}
use Rattle.refusals.specs.Limits.{limits_refusal, set_up_refusal}
use Rattle.refusals.specs.Lengths.{length_refusal, lists_refusal, counts_refusal}
use Rattle.refusals.specs.WholeTrace.{trace_refusal, run_refusal, alone_refusal}
use Rattle.trace.specs.WholeTrace.{RanAlone}
use Rattle.orders.specs.Answered.{unless_refused}
use Rattle.path.specs.PathWork.{row_after, rows_after, Passing, Feeding}

-- A short trace with lists as long and small counts gets no number.
trace_fine : (trace : List ℕ) (ins drops outs : ℕ) → length trace ≤ 4096 → ins ≡ length trace → drops ≡ length trace → outs ≡ length trace → counts_refusal trace ≡ 0
    → trace_refusal trace ins drops outs ≡ 0
unfolding trace_refusal length_refusal lists_refusal ◌when◌ ◌or_else◌
trace_fine trace ins drops outs short l1 l2 l3 counts =
    rw (le-ltb 4096 (length trace) short, eq-eqb ins (length trace) l1, eq-eqb drops (length trace) l2, eq-eqb outs (length trace) l3) counts

-- A run with an accepted table, accepted limits and such a trace is accepted.
pub run_fine : (table : List ℕ) (d q : ℕ) (trace : List ℕ) (ins drops outs : ℕ) → table_refusal table ≡ 0 → limits_refusal d q ≡ 0
    → length trace ≤ 4096 → ins ≡ length trace → drops ≡ length trace → outs ≡ length trace → counts_refusal trace ≡ 0
    → run_refusal table d q trace ins drops outs ≡ 0
unfolding run_refusal set_up_refusal ◌or_else◌
run_fine table d q trace ins drops outs e1 e2 short l1 l2 l3 counts = rw (e1, e2) (trace_fine trace ins drops outs short l1 l2 l3 counts)

-- A stage, which is a regulator alone, is accepted, and lists what it lets go.
pub stage-accepted : (table row : List ℕ) (ins drops outs : ℕ) → Passing table row outs → ins ≡ length row → drops ≡ length row
    → alone_refusal table row ins drops outs ≡ 0
unfolding alone_refusal ◌or_else◌
stage-accepted table row ins drops outs ask l1 l2 =
    rw ask.tabled (trace_fine row ins drops outs ask.short l1 l2 ask.long (counts_none row ask.few))

pub stage_passed : (table row ins drops outs : List ℕ) (verdict : Verdict) (ins' drops' outs' : List ℕ) → Passing table row (length outs)
    → length ins ≡ length row → length drops ≡ length row → RanAlone table row ins drops outs verdict ins' drops' outs'
    → outs' ≡ departed_row table none none row
unfolding unless_refused
stage_passed table row ins drops outs verdict ins' drops' outs' ask l1 l2 ran =
    rw (stage-accepted table row (length ins) (length drops) (length outs) ask l1 l2) at ran.departs

-- No stage lets go more than 1,000,000 packets in a slot, since f(1) is no more.
departed_step : (table : List ℕ) → AcceptedTable table → (d q : Limit) (trace : List ℕ) (k : ℕ) → departed_by table d q trace (suc k) ≤ departed_by table d q trace k + 1000000
unfolding departed_by windows envelope_of
departed_step table ok d q trace k =
    let one : suc k - k ≡ 1 = omega arith in
    let closed : ClosedEnvelope (windows (envelope_of table)) = closure_envelope _ _ (table_given table ok) in
    omega (arith, departed-keeps (windows (envelope_of table)) closed d q (arrivals trace) k (suc k) (omega arith), ap (envelope_of table) one, envelope_of-bound table ok 1)

departed_few : (table : List ℕ) → table_refusal table ≡ 0 → (d q : Limit) (trace : List ℕ) (k : ℕ) → get_or (departed_row table d q trace) k 0 ≤ 1000000
unfolding departed_row
departed_few table e d q trace k =
    let Y : ℕ → ℕ = departed_by table d q trace in
    elim (dec_le (suc k) (length trace)) [
      | yes p ↦ omega (arith, slot_counts_at Y (length trace) k p, departed_step table (table-accepted table e) d q trace k)
      | no p ↦ omega (arith, get_or-eq_default (slot_counts Y (length trace)) 0 {n = k} (omega (arith, length-slot_counts Y (length trace))))
    ]

module _ (tables : List (List ℕ)) (row : List ℕ) where
  -- Each stage's row is as long as the first, and so many of them are so many times as long.
  row_long : (i : ℕ) → length (row_after tables row i) ≡ length row
  unfolding row_after departed_row
  row_long zero = refl
  row_long (suc i) = length-slot_counts _ _ ∙ row_long i

  rows_long : (i : ℕ) → length (rows_after tables row i) ≡ i * length row
  unfolding rows_after
  rows_long zero = omega arith
  rows_long (suc i) = omega (arith, length-append (rows_after tables row i) (row_after tables row (suc i)), rows_long i, row_long (suc i))

-- before the turn of a stage: what it is fed with, and the list with the rows before it, which is else as it was
pub record Fed (tables : List (List ℕ)) (row outs : List ℕ) (stage from : ℕ) (before outs' : List ℕ) : Type 0 where
  pub starts : from ≡ stage * length row
  pub input : before ≡ row_after tables row stage
  pub filled : outs' ≡ rows_after tables row stage ++ drop (stage * length row) outs

pub fed-first : (tables : List (List ℕ)) (row outs : List ℕ) → Fed tables row outs 0 0 row outs
unfolding row_after rows_after
fed-first tables row outs =
    let none : 0 * length row ≡ 0 = omega arith in
    record { starts = sym none; input = refl; filled = rw none }

module _ (inner : ℕ) (tables : List (List ℕ)) (row outs : List ℕ) (ask : Feeding inner tables row (length outs))
    (stage from : ℕ) (before outs' : List ℕ) (fed : Fed tables row outs stage from before outs') where
  abbrev T : ℕ
  T = length row

  pub fed_input : length before ≡ T
  fed_input = ap length fed.input ∙ row_long tables row stage

  -- The list keeps its length.
  pub fed_long : stage ≤ inner → length outs' ≡ length outs
  fed_long p =
      omega (
        arith,
        ap length fed.filled,
        length-append (rows_after tables row stage) (drop (stage * T) outs),
        rows_long tables row stage,
        length-drop (stage * T) outs,
        mul-le-mul_right T p,
        ask.long,
      )

  -- The stage's part lies in it.
  pub fed_fits : stage < inner → from + T ≤ length outs'
  fed_fits p =
      let more : suc stage * T ≡ stage * T + T = omega arith in
      omega (arith, fed_long (omega arith), fed.starts, mul-le-mul_right T p, ask.long)

  -- No place of it is large.
  pub fed_small : stage < inner → from + T ≤ 12288
  fed_small p =
      let more : suc stage * T ≡ stage * T + T = omega arith in
      omega (arith, fed.starts, mul-le-mul p ask.short, mul-le-mul ask.three ask.short, mul-le-mul_right T p, mul-le-mul_right T ask.three)

  row_few : (k : ℕ) → stage ≤ inner → get_or (row_after tables row stage) k 0 ≤ 1000000
  row_few k p = few stage p
    where
      few : (i : ℕ) → i ≤ inner → get_or (row_after tables row i) k 0 ≤ 1000000
      few zero p = unfold row_after in ask.few k
      few (suc i) p = unfold row_after in departed_few (get_or tables i []) (ask.tabled i p) none none (row_after tables row i) k

  -- What a stage asks is there.
  pub fed_asks : stage < inner → Passing (get_or tables stage []) before (length (take (from + T - from) (drop from outs')))
  fed_asks p =
      let count : from + T - from ≡ T = omega arith in
      record {
        tabled = ask.tabled stage p;
        short = omega (arith, fed_input, ask.short);
        few = λ k. rw fed.input (row_few k (omega arith));
        long = rw count (length-take-le T (drop from outs') (omega (arith, length-drop from outs', fed_fits p)) ∙ sym fed_input);
      }

  row_next : departed_row (get_or tables stage []) none none before ≡ row_after tables row (suc stage)
  unfolding row_after
  row_next = ap (departed_row (get_or tables stage []) none none) fed.input

  fed_filled : (part : List ℕ) → part ≡ row_after tables row (suc stage)
      → take from outs' ++ (part ++ drop (from + T - from) (drop from outs')) ≡ rows_after tables row (suc stage) ++ drop (suc stage * T) outs
  unfolding rows_after
  fed_filled part e =
      let whole : length (rows_after tables row stage) ≡ from = rows_long tables row stage ∙ sym fed.starts in
      let front : take from outs' ≡ rows_after tables row stage = ap (take from) fed.filled ∙ take_at (rows_after tables row stage) _ from whole in
      let back : drop from outs' ≡ drop (stage * T) outs = ap (drop from) fed.filled ∙ drop_at (rows_after tables row stage) _ from whole in
      let count : from + T - from ≡ T = omega arith in
      let next : suc stage * T ≡ stage * T + T = omega arith in
      rw (front, back, count, drop-drop T (stage * T) outs, next, e)
      (sym (append_assoc (rows_after tables row stage) (row_after tables row (suc stage)) (drop (stage * T + T) outs)))

  -- A stage's row in its part is one stage more.
  pub fed_next : (out part : List ℕ) → out ≡ departed_row (get_or tables stage []) none none before → part ≡ departed_row (get_or tables stage []) none none before
      → Fed tables row outs (stage + 1) (from + T) out (take from outs' ++ (part ++ drop (from + T - from) (drop from outs')))
  fed_next out part e1 e2 =
      rw (add-one stage) (record {
        starts = omega (arith, fed.starts);
        input = e1 ∙ row_next;
        filled = fed_filled part (e2 ∙ row_next);
      })

  -- After the last stage before the last the rows of all these stand in the list.
  pub fed-last : stage ≤ inner → inner ≤ stage
      → (length before ≡ T) × (outs' ≡ rows_after tables row inner ++ drop (inner * T) outs)
  fed-last p q =
      let e : stage ≡ inner = omega arith in
      (fed_input, rw e at fed.filled)
