-- The rows of regulators in a row as rows of whole-trace runs: the entrance and the last stage are one run's with the merged table, and
-- each stage is an unlimited run's over the row of the stage before.
use mathlib.Core.Path.{◌≡◌, refl, sym, ap, ◌∙◌}
use mathlib.Core.List.{List, [], ◌∷◌}
use Prim.Native.Nat.{ℕ, zero, suc, ◌-◌, ◌*◌, ◌≤◌, ◌<◌}
use native.Mathlib.Omega.{arith}
use lib.ListN.{length, get_or, length-append}
use Rattle.calculus.specs.Numbers.Limit.{Limit, none, at_most}
use Rattle.calculus.specs.Envelopes.Envelope.{windows}
use Rattle.calculus.specs.Regulators.Clipper.{arrived}
use Rattle.calculus.specs.Regulators.Regulator.{convolution, departed, lost}
use Rattle.calculus.specs.Regulators.Trace.{arrivals, slot_counts}
use Rattle.calculus.specs.Regulators.Rows.{envelope_of, admitted_by, departed_by, lost_by, admitted_row, dropped_row, departed_row}
use Rattle.path_calculus.specs.Path.{Stages, stage_envelope, path_admitted, path_lost, stage_departed, path_departed, stage_rows, path_admitted_row, path_dropped_row, path_stage_rows}
use Rattle.path_calculus.specs.Merged.{merged}
use Rattle.calculus.proofs.Regulators.Clipper.{admitted_all}
use Rattle.calculus.proofs.Regulators.Convolution.{convolution_cong, convolution_rises}
use Rattle.calculus.proofs.Regulators.Regulator.{nothing-admitted}
use Rattle.calculus.proofs.Regulators.Trace.{length-slot_counts, slot_counts-sum, arrived-sum, slot_counts_cong}
use Rattle.path_calculus.proofs.Merged.{merge_none}
use Rattle.path_calculus.proofs.PathEnvelope.{stage_closed, merged_closed}
use Rattle.path_calculus.proofs.PathStages.{stage-before, path-admitted, path-departed}

-- An unlimited run over the counts of a total lists what a regulator fed with that total lets go.
pub unlimited-row : (table : List ℕ) (total : ℕ → ℕ) (T : ℕ) → total 0 ≡ 0 → ((i j : ℕ) → i ≤ j → total i ≤ total j)
    → departed_row table none none (slot_counts total T) ≡ slot_counts (convolution total (windows (envelope_of table))) T
unfolding departed_row departed_by departed
unlimited-row table total T starts rises =
    rw (length-slot_counts total T)
    (slot_counts_cong _ _ T
    (λ t p. convolution_cong _ _ _ _ t
    (λ s q.
    admitted_all (windows (envelope_of table)) (arrivals (slot_counts total T)) s
    ∙ arrived-sum (slot_counts total T) s
    ∙ slot_counts-sum total T starts rises s (omega arith))
    (λ s q. refl)))

module _ (tables : List (List ℕ)) (ok : Stages tables) (X : ℕ → ℕ) (starts : X 0 ≡ 0) (rises : (i j : ℕ) → i ≤ j → X i ≤ X j) where
  -- Every stage's total starts at 0 and does not fall.
  pub stage_starts : (i : ℕ) → i ≤ length tables → stage_departed tables X i 0 ≡ 0
  stage_starts zero p = unfold stage_departed in starts
  stage_starts (suc i) p = omega (arith, stage-before tables ok X i p 0, stage_starts i (omega arith))

  pub stage_rises : (i : ℕ) → i ≤ length tables → (s t : ℕ) → s ≤ t → stage_departed tables X i s ≤ stage_departed tables X i t
  unfolding stage_departed
  stage_rises zero p = rises
  stage_rises (suc i) p =
      convolution_rises (stage_departed tables X i) (windows (stage_envelope tables i)) (stage_closed tables ok i p) (stage_rises i (omega arith))

  -- Each stage's row is an unlimited run's over the row of the stage before.
  pub stage-row : (i T : ℕ) → i < length tables
      → slot_counts (stage_departed tables X (suc i)) T ≡ departed_row (get_or tables i []) none none (slot_counts (stage_departed tables X i) T)
  stage-row i T p = unfold stage_departed stage_envelope in
      sym (unlimited-row (get_or tables i []) (stage_departed tables X i) T (stage_starts i (omega arith)) (stage_rises i (omega arith)))

-- The list of the first i stages is i × T long.
pub length-stage_rows : (tables : List (List ℕ)) (X : ℕ → ℕ) (T i : ℕ) → length (stage_rows tables X T i) ≡ i * T
unfolding stage_rows
length-stage_rows tables X T zero = omega arith
length-stage_rows tables X T (suc i) =
    let long = length-append (stage_rows tables X T i) (slot_counts (stage_departed tables X (suc i)) T) in
    omega (arith, length-stage_rows tables X T i, length-slot_counts (stage_departed tables X (suc i)) T)

-- The entrance's and the last stage's rows are those of one run with the merged table.
module _ (tables : List (List ℕ)) (ok : Stages tables) (d q : Limit) (trace : List ℕ) where
  pub path-admitted-row : path_admitted_row tables d q trace ≡ admitted_row (merged tables) d q trace
  unfolding path_admitted_row admitted_row admitted_by
  path-admitted-row = slot_counts_cong _ _ (length trace) (λ t p. path-admitted tables ok d q (arrivals trace) t)

  pub path-dropped-row : path_dropped_row tables d q trace ≡ dropped_row (merged tables) d q trace
  unfolding path_dropped_row dropped_row lost_by path_lost lost
  path-dropped-row = slot_counts_cong _ _ (length trace) (λ t p. ap (λ (x : ℕ). arrived (arrivals trace) t - x) (path-admitted tables ok d q (arrivals trace) t))

  pub path-last-row : slot_counts (path_departed tables d q (arrivals trace)) (length trace) ≡ departed_row (merged tables) d q trace
  unfolding departed_row departed_by
  path-last-row = slot_counts_cong _ _ (length trace) (λ t p. path-departed tables ok d q (arrivals trace) t)

  -- With a buffer limit of 0 nothing is ever let in.
  pub path_nothing : q ≡ at_most 0 → (t : ℕ) → path_admitted tables d q (arrivals trace) t ≡ 0
  path_nothing e t =
      path-admitted tables ok d q (arrivals trace) t ∙ nothing-admitted (windows (envelope_of (merged tables))) (merged_closed tables ok) d q (arrivals trace) e t

-- A path of one stage has the rows of the whole-trace run.
pub path_single : (table : List ℕ) → Stages (table ∷ []) → (d q : Limit) (trace : List ℕ)
    → (path_admitted_row (table ∷ []) d q trace ≡ admitted_row table d q trace) × (path_dropped_row (table ∷ []) d q trace ≡ dropped_row table d q trace)
    × (path_stage_rows (table ∷ []) d q trace ≡ departed_row table d q trace)
unfolding merged path_departed path_stage_rows stage_rows
path_single table ok d q trace =
    let alone : merged (table ∷ []) ≡ table = merge_none table in (
      path-admitted-row (table ∷ []) ok d q trace ∙ ap (λ (l : List ℕ). admitted_row l d q trace) alone,
      path-dropped-row (table ∷ []) ok d q trace ∙ ap (λ (l : List ℕ). dropped_row l d q trace) alone,
      path-last-row (table ∷ []) ok d q trace ∙ ap (λ (l : List ℕ). departed_row l d q trace) alone,
    )
