-- Stream files that carry both marks, d 255 and q 4,294,967,295 (document 02, request 2.12), and document 01's row with both limits
-- none as such a file.
use Rattle.std.specs.Prelude.{◌≡◌, List, [], ◌∷◌, ℕ, get_or}
use Rattle.calculus.specs.Numbers.Limit.{none}
use Rattle.calculus.specs.Regulators.Rows.{dropped_row, departed_row}
use Rattle.stream.specs.Format.{table_of, file_trace}
use Rattle.text.specs.Lines.{bytes, table_text}
use Rattle.loss_table.specs.Text.{printed_text}

-- Such a file that is accepted has all it holds admitted, 0 dropped in every slot, and theorem 5.1's departures with both limits none.
pub record PrintedAlone (file : List ℕ) : Type 0 where
  pub printed :
      printed_text file
      ≡ table_text (file_trace file) (file_trace file) (dropped_row (table_of file) none none (file_trace file)) (departed_row (table_of file) none none (file_trace file))
  pub nothing_dropped : (t : ℕ) → get_or (dropped_row (table_of file) none none (file_trace file)) t 0 ≡ 0

-- L 2, T 3, m 2, both marks; table 0,2,3; slots 1 and 3 with 5 and 4
unfoldable pub unlimited_file : List ℕ
unlimited_file =
    2 ∷ 0 ∷ 0 ∷ 0 ∷ 3 ∷ 0 ∷ 0 ∷ 0 ∷ 2 ∷ 0 ∷ 0 ∷ 0 ∷ 255 ∷ 0 ∷ 0 ∷ 0 ∷ 255 ∷ 255 ∷ 255 ∷ 255
    ∷ 0 ∷ 0 ∷ 0 ∷ 0 ∷ 2 ∷ 0 ∷ 0 ∷ 0 ∷ 3 ∷ 0 ∷ 0 ∷ 0
    ∷ 1 ∷ 0 ∷ 0 ∷ 0 ∷ 3 ∷ 0 ∷ 0 ∷ 0
    ∷ 5 ∷ 0 ∷ 0 ∷ 0 ∷ 4 ∷ 0 ∷ 0 ∷ 0 ∷ []

-- The program prints: nothing dropped, departed 2,1,2, held 3,2,4.
pub record UnlimitedFile : Type 0 where
  pub printed :
      printed_text unlimited_file
      ≡ bytes "slot arrived admitted dropped departed held\n1 5 5 0 2 3\n2 0 0 0 1 2\n3 4 4 0 2 4\ntotal 9 9 0 5 4\n"
