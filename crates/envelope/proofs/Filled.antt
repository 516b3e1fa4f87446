-- Laws of the entries that count, and of a row that is filled.
use mathlib.Core.Path.{◌≡◌, ap, ap₂, ◌∙◌}
use mathlib.Core.List.{List}
use Prim.Native.Nat.{ℕ, suc, ◌≤◌, ◌<◌, min}
use native.Mathlib.Decide.{dec_le}
use native.Mathlib.Omega.{arith}
use lib.ListN.{length, get_or, get_or-eq_default}
use borrow.Author.Tests.{lt-ltb, le-ltb}
use Rattle.calculus.specs.Numbers.Lists.{list_of, newest_first}
use Rattle.calculus.proofs.Numbers.Lists.{length-list_of, list_of_at}
use Rattle.orders.specs.Refusal.{◌when◌}
use Rattle.orders.specs.Answered.{verdict_of, unless_refused}
use Rattle.orders.specs.Verdict.{Verdict, Accepted, Refused}
use Rattle.envelope.specs.declared.table.Envelope.{Envelope}
use Rattle.envelope.specs.ClosureRow.{closed_by, piece_by, placed}
use Rattle.envelope.specs.Envelope.{last_used, capped_table, bound, piece_at, row_refusal, RowAnswered}

-- Capped entries are small, whatever they were.
pub capped_small : (table : List ℕ) (k : ℕ) → get_or (capped_table table) k 0 ≤ 1000000
unfolding capped_table
capped_small table k =
    elim (dec_le (suc k) 65) [
      | yes p ↦ omega (arith, list_of_at (λ i. min (get_or table i 0) 1000000) 65 k p)
      | no p ↦ omega (arith, get_or-eq_default (list_of (λ i. min (get_or table i 0) 1000000) 65) 0 {n = k} (omega (arith, length-list_of (λ i. min (get_or table i 0) 1000000) 65)))
    ]

module _ (e : Envelope) (row pieces : List ℕ) where
  -- A row that is too long is left as it was.
  pub row_refused : 4161 < length row → RowAnswered e row pieces (Refused 5) row pieces
  unfolding row_refusal ◌when◌ verdict_of unless_refused
  row_refused far = let long = lt-ltb 4161 (length row) far in record { answered = rw long; bounds = rw long; first_pieces = rw long }

  module _ (short : length row ≤ 4161) where
    -- What is filled is answered.
    row_filled : (row' pieces' : List ℕ) → row' ≡ newest_first (bound e) (length row) → pieces' ≡ placed (piece_at e) (length row) pieces (length row) → RowAnswered e row pieces Accepted row' pieces'
    unfolding row_refusal ◌when◌ verdict_of unless_refused
    row_filled row' pieces' filled pieced = let fine = le-ltb 4161 (length row) short in record { answered = rw fine; bounds = rw fine filled; first_pieces = rw fine pieced }

    -- The closure of the entries that count, worked into the row, is what is filled.
    pub row_closed : (table : List ℕ) (last : ℕ) → table ≡ capped_table e.table → last ≡ last_used e.last.0 → (row' pieces' : List ℕ)
        → row' ≡ newest_first (closed_by table last) (length row) → pieces' ≡ placed (piece_by table last) (length row) pieces (length row)
        → RowAnswered e row pieces Accepted row' pieces'
    unfolding bound piece_at
    row_closed table last capped used row' pieces' filled pieced =
        row_filled row' pieces' (filled ∙ ap (λ (g : ℕ → ℕ). newest_first g (length row)) (ap₂ closed_by capped used))
        (pieced ∙ ap (λ (g : ℕ → ℕ). placed g (length row) pieces (length row)) (ap₂ piece_by capped used))

    module _ {verdict : Verdict} {row' pieces' : List ℕ} (answered : RowAnswered e row pieces verdict row' pieces') where
      -- An accepted row has f, window 0 last, and the list of pieces its pieces.
      pub row_bounds : (row' ≡ newest_first (bound e) (length row)) × (pieces' ≡ placed (piece_at e) (length row) pieces (length row))
      unfolding row_refusal ◌when◌ unless_refused
      row_bounds = let fine = le-ltb 4161 (length row) short in (rw fine at answered.bounds, rw fine at answered.first_pieces)

      pub row-accepted : verdict ≡ Accepted
      unfolding row_refusal ◌when◌ verdict_of
      row-accepted = let fine = le-ltb 4161 (length row) short in rw fine at answered.answered
