-- The stages' list in parts: each stage's part is its row.
use mathlib.Core.Path.{◌≡◌, ap, ◌∙◌}
use mathlib.Core.List.{List, ◌++◌}
use Prim.Native.Nat.{ℕ, zero, suc, ◌+◌, ◌*◌, ◌≤◌, ◌<◌}
use native.Mathlib.Decide.{dec_le}
use native.Mathlib.Nat.{mul-le-mul_right}
use native.Mathlib.Omega.{arith}
use lib.ListN.{length, take, drop, length-drop}
use lib.Seq.{take-append-le, drop-append-le, drop_at, take_all}
use Rattle.calculus.specs.Regulators.Trace.{slot_counts}
use Rattle.path_calculus.specs.Path.{stage_departed, stage_rows}
use Rattle.calculus.proofs.Regulators.Trace.{length-slot_counts}
use Rattle.path_calculus.proofs.PathRows.{length-stage_rows}
use Rattle.path.specs.PathLoss.{stage_part}

-- A part of the first of two lists is a part of both together.
part-append : (T at : ℕ) (xs ys : List ℕ) → at + T ≤ length xs → take T (drop at (xs ++ ys)) ≡ take T (drop at xs)
part-append T at xs ys p =
    ap (take T) (drop-append-le at xs ys (omega arith)) ∙ take-append-le T (drop at xs) ys (omega (arith, length-drop at xs))

pub part-row : (tables : List (List ℕ)) (X : ℕ → ℕ) (T n i : ℕ) → i < n → stage_part T i (stage_rows tables X T n) ≡ slot_counts (stage_departed tables X (suc i)) T
unfolding stage_rows
part-row tables X T zero i p = absurd (omega arith)
part-row tables X T (suc n) i p =
    let long : length (stage_rows tables X T n) ≡ n * T = length-stage_rows tables X T n in
    elim (dec_le (suc i) n) [
      | yes q ↦
          let next : suc i * T ≡ i * T + T = omega arith in
          part-append T (i * T) (stage_rows tables X T n) _ (omega (arith, mul-le-mul_right T q)) ∙ part-row tables X T n i q
      | no q ↦ let e : i ≡ n = omega arith in
          rw e
          (ap (take T) (drop_at (stage_rows tables X T n) (slot_counts (stage_departed tables X (suc n)) T) (n * T) long)
          ∙ take_all T (slot_counts (stage_departed tables X (suc n)) T) (omega (arith, length-slot_counts (stage_departed tables X (suc n)) T)))
    ]
