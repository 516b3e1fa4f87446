-- The path's run: what its parts ask is there, and together they are the path's rows.
use mathlib.Core.Path.{◌≡◌, refl, sym, ap, ap₂, ◌∙◌}
use mathlib.Core.List.{List, [], ◌∷◌, ◌++◌, append-nil}
use Prim.Native.Nat.{ℕ, zero, suc, ◌+◌, ◌-◌, ◌*◌, ◌≤◌, ◌<◌}
use native.Mathlib.Nat.{mul-le-mul}
use native.Mathlib.Omega.{arith}
use lib.ListN.{length, get_or, take, drop, length-take, length-drop, length-append, drop_of_length-le}
use lib.Seq.{get_or-take, length-take-le, drop_at}
use Rattle.calculus.specs.Numbers.Limit.{none}
use Rattle.calculus.specs.Regulators.Trace.{arrivals, slot_counts}
use Rattle.calculus.specs.Regulators.Rows.{departed_row}
use Rattle.path_calculus.specs.Path.{Stages, path_admitted, stage_departed, path_departed, stage_rows, path_admitted_row, path_stage_rows}
use Rattle.path_calculus.specs.Merged.{merged}
use Rattle.calculus.proofs.Regulators.Trace.{length-slot_counts}
use Rattle.path_calculus.proofs.PathRows.{stage-row, path-admitted-row, path-dropped-row, path-last-row}
use Rattle.refusals.specs.Limits.{delay_limit, buffer_limit}
use Rattle.refusals.specs.WholeTrace.{run_refusal}
use Rattle.trace.specs.WholeTrace.{Ran}
use Rattle.orders.specs.Answered.{unless_refused}
use Rattle.orders.specs.Verdict.{Verdict}
use Rattle.refusals.proofs.TraceCounts.{counts_few}
use Rattle.path.specs.Refusals.{tables_of, tables_refusal, path_refusal}
use Rattle.path.specs.PathWork.{row_after, rows_after, Feeding, RowsOf, PathRows}
use Rattle.path.proofs.RefusalParts.{AcceptedPath, path-accepted}
use Rattle.path.proofs.Merging.{judged_at}
use Rattle.path.proofs.StageRows.{run_fine}
use Rattle.path.proofs.Entrance.{path_stages, merged-accepted, entrance_starts, entrance_rises, admitted_few, length-admitted}

-- A run with another name for its table gets no number either.
pub merged_run : (table given : List ℕ) (d q : ℕ) (trace : List ℕ) (ins drops outs : ℕ) → given ≡ table → run_refusal table d q trace ins drops outs ≡ 0
    → run_refusal given d q trace ins drops outs ≡ 0
merged_run table given d q trace ins drops outs same accepted = rw same accepted

-- A run that gets no number fills its lists with its table's rows.
pub ran_rows : (table given : List ℕ) (d q : ℕ) (trace ins drops outs : List ℕ) (verdict : Verdict) (ins' drops' outs' : List ℕ) → given ≡ table
    → run_refusal table d q trace (length ins) (length drops) (length outs) ≡ 0 → Ran given d q trace ins drops outs verdict ins' drops' outs'
    → RowsOf table (delay_limit d) (buffer_limit q) trace ins' drops' outs'
unfolding unless_refused
ran_rows table given d q trace ins drops outs verdict ins' drops' outs' same fine ran =
    record {
      admits = rw (same, fine) at ran.admits;
      dropped = rw (same, fine) at ran.dropped;
      departs = rw (same, fine) at ran.departs;
    }

-- The rows that are worked are the stages' rows of the path.
module _ (tables : List (List ℕ)) (ok : Stages tables) (X : ℕ → ℕ) (starts : X 0 ≡ 0) (rises : (i j : ℕ) → i ≤ j → X i ≤ X j) (T : ℕ) where
  worked-row : (i : ℕ) → i ≤ length tables → row_after tables (slot_counts X T) i ≡ slot_counts (stage_departed tables X i) T
  unfolding row_after
  worked-row zero p = unfold stage_departed in refl
  worked-row (suc i) p = ap (departed_row (get_or tables i []) none none) (worked-row i (omega arith)) ∙ sym (stage-row tables ok X starts rises i T p)

  worked_rows : (i : ℕ) → i ≤ length tables → rows_after tables (slot_counts X T) i ≡ stage_rows tables X T i
  unfolding rows_after stage_rows
  worked_rows zero p = refl
  worked_rows (suc i) p = ap₂ (λ (a b : List ℕ). a ++ b) (worked_rows i (omega arith)) (worked-row (suc i) p)

-- Rows depend on the tables of their own stages alone.
module _ (tables others : List (List ℕ)) (row : List ℕ) (n : ℕ) (same : (i : ℕ) → i < n → get_or tables i [] ≡ get_or others i []) where
  row_cong : (i : ℕ) → i ≤ n → row_after tables row i ≡ row_after others row i
  unfolding row_after
  row_cong zero p = refl
  row_cong (suc i) p = ap₂ (λ (t r : List ℕ). departed_row t none none r) (same i p) (row_cong i (omega arith))

  rows_cong : (i : ℕ) → i ≤ n → rows_after tables row i ≡ rows_after others row i
  unfolding rows_after
  rows_cong zero p = refl
  rows_cong (suc i) p = ap₂ (λ (a b : List ℕ). a ++ b) (rows_cong i (omega arith)) (row_cong (suc i) p)

one_less : (n m : ℕ) → 1 ≤ n → n * m ≡ (n - 1) * m + m
one_less zero m p = absurd (omega arith)
one_less (suc n) m p = let e : suc n - 1 ≡ n = omega arith in rw e (omega arith)

module _ (first second third fourth : List ℕ) where
  module _ (stages d q : ℕ) (trace : List ℕ) (ins drops : ℕ) (outs : List ℕ)
      (fine : path_refusal stages (tables_of stages first second third fourth) d q trace ins drops (length outs) ≡ 0) where
    abbrev tables : List (List ℕ)
    tables = tables_of stages first second third fourth

    abbrev T : ℕ
    T = length trace

    abbrev last : ℕ
    last = (stages - 1) * T

    ok : AcceptedPath stages tables d q trace ins drops (length outs)
    ok = path-accepted stages tables d q trace ins drops (length outs) fine

    pub work_stages : 1 ≤ stages
    work_stages = ok.some_stages

    pub tables_long : length tables ≡ stages
    unfolding tables_of
    tables_long = omega (arith, length-take stages (first ∷ second ∷ third ∷ fourth ∷ []), ok.few_stages)

    some : 1 ≤ length tables
    some = omega (arith, tables_long, ok.some_stages)

    pub stages_given : Stages tables
    stages_given = path_stages tables some ok.tabled

    -- The last stage's part is the list's end.
    pub last_ends : last + T ≡ length outs
    last_ends = omega (arith, ok.long_outs, one_less stages T ok.some_stages)

    pub last_small : last ≤ 12288
    last_small =
        let few : stages - 1 ≤ 3 = omega (arith, ok.few_stages) in
        omega (arith, mul-le-mul few ok.short)

    pub last-part : length (take (length outs - last) (drop last outs)) ≡ T
    last-part = length-take-le (length outs - last) (drop last outs) (omega (arith, length-drop last outs)) ∙ (omega (arith, last_ends))

    -- What the entrance asks.
    pub enter_asks : (stages ≤ 4) × (tables_refusal tables ≡ 0) × (run_refusal (merged tables) d q trace ins drops (length (take (length outs - last) (drop last outs))) ≡ 0)
    enter_asks = (
      ok.few_stages,
      ok.tabled,
      run_fine (merged tables) d q trace ins drops _ (merged-accepted tables some ok.tabled) ok.limited ok.short ok.long_ins ok.long_drops last-part ok.counted,
    )

    inner_at : (i : ℕ) → i < stages - 1 → get_or (first ∷ second ∷ third ∷ fourth ∷ []) i [] ≡ get_or tables i []
    unfolding tables_of
    inner_at i p = sym (get_or-take stages (first ∷ second ∷ third ∷ fourth ∷ []) i [] (omega arith))

    module _ (ins' drops' part : List ℕ) (entered : RowsOf (merged tables) (delay_limit d) (buffer_limit q) trace ins' drops' part) where
      abbrev outs' : List ℕ
      outs' = take last outs ++ (part ++ drop (length outs - last) (drop last outs))

      entered_long : length ins' ≡ T
      entered_long = ap length entered.admits ∙ length-admitted (merged tables) (delay_limit d) (buffer_limit q) trace

      part_long : length part ≡ T
      unfolding departed_row
      part_long = ap length entered.departs ∙ length-slot_counts _ T

      pub outs_long : length outs' ≡ length outs
      outs_long =
          omega (
            arith,
            last_ends,
            part_long,
            length-append (take last outs) (part ++ drop (length outs - last) (drop last outs)),
            length-append part (drop (length outs - last) (drop last outs)),
            length-take-le last outs (omega (arith, last_ends)),
            length-drop (length outs - last) (drop last outs),
            length-drop last outs,
          )

      -- What the stages before the last ask.
      pub inner_asks : Feeding (stages - 1) (first ∷ second ∷ third ∷ fourth ∷ []) ins' (length outs')
      inner_asks =
          record {
            three = omega (arith, ok.few_stages);
            tabled = λ i p. rw (inner_at i p) (judged_at tables ok.tabled i (omega (arith, tables_long)));
            short = omega (arith, entered_long, ok.short);
            few = λ k. rw entered.admits (admitted_few (merged tables) (merged-accepted tables some ok.tabled) (delay_limit d) (buffer_limit q) trace (counts_few trace ok.counted) k);
            long = rw entered_long (omega (arith, last_ends, outs_long));
          }

      abbrev X : ℕ → ℕ
      X = path_admitted tables (delay_limit d) (buffer_limit q) (arrivals trace)

      entered-row : ins' ≡ slot_counts X T
      unfolding path_admitted_row
      entered-row = entered.admits ∙ sym (path-admitted-row tables stages_given (delay_limit d) (buffer_limit q) trace)

      inner_rows : rows_after (first ∷ second ∷ third ∷ fourth ∷ []) ins' (stages - 1) ≡ stage_rows tables X T (stages - 1)
      inner_rows =
          rows_cong (first ∷ second ∷ third ∷ fourth ∷ []) tables ins' (stages - 1) inner_at (stages - 1) (omega arith)
          ∙ ap (λ (r : List ℕ). rows_after tables r (stages - 1)) entered-row
          ∙ worked_rows tables stages_given X (entrance_starts tables stages_given (delay_limit d) (buffer_limit q) (arrivals trace)) (entrance_rises tables stages_given (delay_limit d) (buffer_limit q) (arrivals trace)) T (stages - 1) (omega (arith, tables_long))

      last_row : drop ((stages - 1) * length ins') outs' ≡ slot_counts (stage_departed tables X (length tables)) T
      unfolding path_departed
      last_row =
          let rest : drop (length outs - last) (drop last outs) ≡ [] = drop_of_length-le (drop last outs) {i = length outs - last} (omega (arith, length-drop last outs)) in
          rw entered_long
          (drop_at (take last outs) _ last (length-take-le last outs (omega (arith, last_ends)))
          ∙ ap (λ (l : List ℕ). part ++ l) rest
          ∙ append-nil part
          ∙ entered.departs
          ∙ sym (path-last-row tables stages_given (delay_limit d) (buffer_limit q) trace))

      -- Both together are the path's rows.
      pub path_filled : (final : List ℕ) → final ≡ rows_after (first ∷ second ∷ third ∷ fourth ∷ []) ins' (stages - 1) ++ drop ((stages - 1) * length ins') outs'
          → PathRows tables (delay_limit d) (buffer_limit q) trace ins' drops' final
      unfolding path_stage_rows stage_rows
      path_filled final e =
          let count : length tables ≡ suc (stages - 1) = omega (arith, tables_long, ok.some_stages) in
          let all : stage_rows tables X T (stages - 1) ++ slot_counts (stage_departed tables X (suc (stages - 1))) T ≡ stage_rows tables X T (length tables) = rw count in
          record {
            admits = entered.admits ∙ sym (path-admitted-row tables stages_given (delay_limit d) (buffer_limit q) trace);
            dropped = entered.dropped ∙ sym (path-dropped-row tables stages_given (delay_limit d) (buffer_limit q) trace);
            departs = e ∙ ap₂ (λ (a b : List ℕ). a ++ b) inner_rows (last_row ∙ ap (λ (n : ℕ). slot_counts (stage_departed tables X n) T) count) ∙ all;
          }
