-- A row of totals, newest first, after one more total (document 01, "One slot": the last L departed totals).
use Rattle.std.specs.Prelude.{◌≡◌, ℕ, zero, suc, List, [], ◌∷◌, slice_index, slice_set}

-- the row after one more total: its first `last` places move back by one, and the oldest of them is forgotten
unfoldable pub pushed : ℕ → ℕ → List ℕ → List ℕ
pushed zero newest row = row
pushed (suc last) newest [] = []
pushed (suc last) newest (x ∷ row) = newest ∷ pushed last x row

-- the newest total put first, where the row keeps one
unfoldable pub newest_put : ℕ → ℕ → List ℕ → List ℕ
newest_put zero newest row = row
newest_put (suc last) newest row = slice_set row 0 newest

-- a given row of which the first i places have moved, a 0 keeping the first place for a total that is not known yet; `before` is
-- what the next place gets
pub record Moving (given : List ℕ) (i : ℕ) (row : List ℕ) (before : ℕ) : Type 0 where
  pub moved : row ≡ pushed i 0 given
  pub next : before ≡ slice_index (0 ∷ given) i
