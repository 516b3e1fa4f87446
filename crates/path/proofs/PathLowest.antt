-- Lists that hold the rows of the merged table are the least loss among pairs that keep every stage's envelope, and each stage's row
-- keeps its own envelope and never passes the row before.
use mathlib.Core.Path.{◌≡◌, refl, sym, ap, ◌∙◌, fun_ext, subst}
use mathlib.Core.List.{List}
use Prim.Native.Nat.{ℕ, suc, ◌-◌, ◌≤◌, ◌<◌}
use native.Mathlib.Omega.{arith}
use lib.ListN.{length}
use Rattle.calculus.specs.Numbers.Limit.{Limit}
use Rattle.calculus.specs.Envelopes.Envelope.{windows}
use Rattle.calculus.specs.Regulators.Trace.{arrivals, slot_counts, sum_to}
use Rattle.calculus.specs.Regulators.Clipper.{admitted}
use Rattle.calculus.specs.Regulators.Regulator.{departed}
use Rattle.calculus.specs.Regulators.Rows.{envelope_of, admitted_by, departed_by, lost_by, admitted_row, dropped_row, departed_row}
use Rattle.calculus.specs.Losses.Permitted.{Permitted}
use Rattle.calculus.specs.Losses.LossCurve.{LowestAmong, LowestLoss}
use Rattle.path_calculus.specs.Path.{Stages, path_envelope, path_admitted, stage_departed, path_departed, stage_rows, path_admitted_row, path_dropped_row, path_stage_rows, PathPermitted}
use Rattle.path_calculus.specs.Merged.{merged}
use Rattle.calculus.proofs.Regulators.Trace.{length-slot_counts, slot_counts-sum}
use Rattle.calculus.proofs.Regulators.Convolution.{convolution_cong}
use Rattle.calculus.proofs.Losses.LossCurve.{counts-lowest, lowest_among_fewer}
use Rattle.path_calculus.proofs.PathEnvelope.{merged_closed, path_envelope_lem}
use Rattle.path_calculus.proofs.PathStages.{stage-before, stage-keeps}
use Rattle.path_calculus.proofs.PathRows.{stage_starts, stage_rises, path-admitted-row, path-dropped-row, path-last-row}
use Rattle.path_calculus.proofs.PathLowestLoss.{path_permitted, permitted_path}
use Rattle.path.specs.PathLoss.{stage_part, StagesKeep, PathLowestLoss}
use Rattle.path.proofs.PathParts.{part-row}
use Rattle.path.proofs.Entrance.{entrance_starts, entrance_rises}

module _ (tables : List (List ℕ)) (ok : Stages tables) (d q : Limit) (trace : List ℕ) where
  abbrev F : ℕ → ℕ → ℕ
  F = windows (envelope_of (merged tables))

  merged-lowest : LowestLoss F d q trace (admitted_row (merged tables) d q trace) (dropped_row (merged tables) d q trace) (departed_row (merged tables) d q trace)
  unfolding admitted_row dropped_row departed_row admitted_by departed_by lost_by
  merged-lowest = counts-lowest F (merged_closed tables ok) d q trace

  -- It is the least among the pairs that keep every stage's envelope, and the totals are those of the closure of the pointwise least.
  rows-lowest : PathLowestLoss tables d q trace (admitted_row (merged tables) d q trace) (dropped_row (merged tables) d q trace) (departed_row (merged tables) d q trace)
  rows-lowest =
      let fewer = path_permitted tables ok d q (arrivals trace) (length trace) in
      let ours = permitted_path tables ok d q (arrivals trace) (length trace) _ _ merged-lowest.permitted in
      subst (λ (f : ℕ → ℕ). LowestAmong (PathPermitted tables d q (arrivals trace) (length trace)) d (admitted (windows f) d q (arrivals trace)) (departed (windows f) d q (arrivals trace)) trace
      (admitted_row (merged tables) d q trace) (dropped_row (merged tables) d q trace) (departed_row (merged tables) d q trace))
      (sym (fun_ext (path_envelope_lem tables ok)))
      (lowest_among_fewer (Permitted F d q (arrivals trace) (length trace)) (PathPermitted tables d q (arrivals trace) (length trace)) d _ _ trace _ _ _ fewer ours merged-lowest)

-- What each stage lets go, as rows.
module _ (tables : List (List ℕ)) (ok : Stages tables) (X : ℕ → ℕ) (starts : X 0 ≡ 0) (rises : (i j : ℕ) → i ≤ j → X i ≤ X j) (T : ℕ) where
  row-sum : (i : ℕ) → i ≤ length tables → (t : ℕ) → t ≤ T → sum_to (slot_counts (stage_departed tables X i) T) t ≡ stage_departed tables X i t
  row-sum i p t q = slot_counts-sum (stage_departed tables X i) T (stage_starts tables ok X starts rises i p) (stage_rises tables ok X starts rises i p) t q

  rows_keep : (outs : List ℕ) → outs ≡ stage_rows tables X T (length tables) → StagesKeep tables T (slot_counts X T) outs
  rows_keep outs e =
      let part : (i : ℕ) → i < length tables → stage_part T i outs ≡ slot_counts (stage_departed tables X (suc i)) T = λ i p.
      ap (stage_part T i) e ∙ part-row tables X T (length tables) i p in
      record {
        long = λ i p. ap length (part i p) ∙ length-slot_counts (stage_departed tables X (suc i)) T;
        first_fed = λ t t_t.
            rw (part 0 ok.some)
            (row-sum 1 ok.some t t_t
            ∙ (unfold stage_departed in convolution_cong X (sum_to (slot_counts X T)) _ _ t (λ s st. sym (first-sum s (omega arith))) (λ s st. refl)));
        fed = λ i p t t_t.
            rw (part (suc i) p, part i (omega arith))
            (row-sum (suc (suc i)) p t t_t
            ∙ (unfold stage_departed in
            convolution_cong (stage_departed tables X (suc i)) _ _ _ t (λ s st. sym (row-sum (suc i) (omega arith) s (omega arith))) (λ s st. refl)));
        keeps = λ i p s t st t_t. rw (part i p) (omega (arith, row-sum (suc i) p s (omega arith), row-sum (suc i) p t t_t, stage-keeps tables ok X i p s t st));
        first_behind = λ t t_t. rw (part 0 ok.some) (omega (arith, row-sum 1 ok.some t t_t, first-sum t t_t, first-before t));
        behind = λ i p t t_t.
            rw (part (suc i) p, part i (omega arith))
            (omega (arith, row-sum (suc (suc i)) p t t_t, row-sum (suc i) (omega arith) t t_t, stage-before tables ok X (suc i) p t));
      }
    where
      first-sum : (t : ℕ) → t ≤ T → sum_to (slot_counts X T) t ≡ X t
      first-sum t q = slot_counts-sum X T starts rises t q

      first-before : (t : ℕ) → stage_departed tables X 1 t ≤ X t
      first-before t = unfold stage_departed in stage-before tables ok X 0 ok.some t

module _ (tables : List (List ℕ)) (ok : Stages tables) (d q : Limit) (trace : List ℕ) where
  -- The last part is what leaves the path, the merged table's row, and theorem 5.1's for the closure of the pointwise least.
  pub last_path : stage_part (length trace) (length tables - 1) (path_stage_rows tables d q trace) ≡ slot_counts (path_departed tables d q (arrivals trace)) (length trace)
  unfolding path_stage_rows path_departed
  last_path =
      let count : suc (length tables - 1) ≡ length tables = omega (arith, ok.some) in
      part-row tables (path_admitted tables d q (arrivals trace)) (length trace) (length tables) (length tables - 1) (omega (arith, ok.some))
      ∙ ap (λ (n : ℕ). slot_counts (stage_departed tables (path_admitted tables d q (arrivals trace)) n) (length trace)) count

  last-merged : stage_part (length trace) (length tables - 1) (path_stage_rows tables d q trace) ≡ departed_row (merged tables) d q trace
  last-merged = last_path ∙ path-last-row tables ok d q trace

  pub last-departed : stage_part (length trace) (length tables - 1) (path_stage_rows tables d q trace)
      ≡ slot_counts (departed (windows (path_envelope tables)) d q (arrivals trace)) (length trace)
  unfolding departed_row departed_by
  last-departed =
      last-merged ∙ ap (λ (f : ℕ → ℕ). slot_counts (departed (windows f) d q (arrivals trace)) (length trace)) (sym (fun_ext (path_envelope_lem tables ok)))

  -- The path's rows keep each stage's envelope, and are the least loss.
  pub path_rows_keep : StagesKeep tables (length trace) (path_admitted_row tables d q trace) (path_stage_rows tables d q trace)
  unfolding path_admitted_row path_stage_rows
  path_rows_keep =
      rows_keep tables ok (path_admitted tables d q (arrivals trace)) (entrance_starts tables ok d q (arrivals trace)) (entrance_rises tables ok d q (arrivals trace)) (length trace) _ refl

  pub path_rows-lowest : PathLowestLoss tables d q trace (path_admitted_row tables d q trace) (path_dropped_row tables d q trace)
      (stage_part (length trace) (length tables - 1) (path_stage_rows tables d q trace))
  path_rows-lowest = rw (path-admitted-row tables ok d q trace, path-dropped-row tables ok d q trace, last-merged) (rows-lowest tables ok d q trace)
