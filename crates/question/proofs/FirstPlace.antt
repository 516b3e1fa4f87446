-- The first place of a row that is filled is the newest window's.
use mathlib.Core.Path.{◌≡◌, ap, ◌∙◌}
use mathlib.Core.List.{List, ◌++◌}
use Prim.Native.Nat.{ℕ, ◌+◌, ◌≤◌}
use native.Mathlib.Omega.{arith}
use native.Mathlib.Numerals.{add-one}
use lib.ListN.{length, get_or}
use Rattle.calculus.specs.Numbers.Lists.{newest_first}
use Rattle.envelope.specs.ClosureRow.{placed}
use Rattle.envelope.specs.Envelope.{bound, piece_at, RowAnswered}
use Rattle.envelope.proofs.LastPlaceFirst.{placed_first}
use Rattle.envelope.proofs.Filled.{row_bounds}
use Rattle.envelope.specs.declared.table.Envelope.{Envelope}
use Rattle.orders.specs.Verdict.{Verdict}

-- With w + 1 places it has f at window w, whatever stands after the row, and the list of pieces has its piece.
pub first_place : (e : Envelope) (row pieces rest : List ℕ) (w : ℕ) {verdict : Verdict} {row' pieces' : List ℕ} → length row ≡ w + 1 → w ≤ 4160 → 1 ≤ length pieces
    → RowAnswered e row pieces verdict row' pieces' → (get_or (row' ++ rest) 0 0 ≡ bound e w) × (get_or pieces' 0 0 ≡ piece_at e w)
unfolding newest_first
first_place e row pieces rest w long few some answered =
    let (filled, pieced) = row_bounds e row pieces (omega arith) answered in (
      ap (λ (l : List ℕ). get_or (l ++ rest) 0 0) (filled ∙ ap (newest_first (bound e)) (long ∙ add-one w)),
      ap (λ (l : List ℕ). get_or l 0 0) (pieced ∙ ap (λ (n : ℕ). placed (piece_at e) n pieces n) long) ∙ placed_first (piece_at e) pieces w some,
    )
