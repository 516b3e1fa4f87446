-- What of an envelope counts, and what the envelope part answers (document 01, "The envelope").
use Rattle.std.specs.Prelude.{◌≡◌, ℕ, suc, min, max, List, length, get_or, ltb, leb}
use Rattle.calculus.specs.Numbers.Sizes.{most_window, most_packets, most_asked}
use Rattle.calculus.specs.Numbers.Lists.{list_of, newest_first}
use Rattle.orders.specs.Refusal.{◌when◌, pick}
use Rattle.orders.specs.Answered.{verdict_of, unless_refused}
use Rattle.envelope.specs.ClosureRow.{closed_by, piece_by, placed}
use Rattle.envelope.specs.declared.table.Envelope.{Envelope}
use Rattle.orders.specs.Verdict.{Verdict}

-- L of an envelope; one that no table gave counts as the nearest of 1 to 64
abbrev pub last_used : ℕ → ℕ
last_used last = max 1 (min last most_window)

-- its entries; those that no table gave count as 1,000,000 at most
unfoldable pub capped_table : List ℕ → List ℕ
capped_table table = list_of (λ k. min (get_or table k 0) most_packets) 65

-- f of an envelope
unfoldable pub bound : Envelope → ℕ → ℕ
bound e = closed_by (capped_table e.table) (last_used e.last.0)

-- its first piece, over the entries and the L that count: those of its table, where one gave them
unfoldable pub piece_at : Envelope → ℕ → ℕ
piece_at e = piece_by (capped_table e.table) (last_used e.last.0)

-- f at the windows 0 to `last` and its first pieces there, in rows for the windows 0 to 128; at the places after `last` stands 0
unfoldable pub near_to : Envelope → ℕ → List ℕ
near_to e last = list_of (λ k. pick (leb k last) (bound e k) 0) 129

unfoldable pub pieces_to : Envelope → ℕ → List ℕ
pieces_to e last = list_of (λ k. pick (leb k last) (piece_at e k) 0) 129

-- f at the windows 0 to 128, of which a regulator is made
abbrev pub near_row : Envelope → List ℕ
near_row e = near_to e 128

-- As many windows as a lent row has places, window 0 last: 5 for a window above 4,160.
unfoldable pub row_refusal : ℕ → ℕ
row_refusal row = 5 when ltb (suc most_asked) row

-- what is answered, and left in the row and in a list of pieces of any length: f in the row, and its first pieces at the same places of the list
pub record RowAnswered (e : Envelope) (row pieces : List ℕ) (verdict : Verdict) (row' pieces' : List ℕ) : Type 0 where
  pub answered : verdict ≡ verdict_of (row_refusal (length row))
  pub bounds : row' ≡ unless_refused (row_refusal (length row)) (newest_first (bound e) (length row)) row
  pub first_pieces : pieces' ≡ unless_refused (row_refusal (length row)) (placed (piece_at e) (length row) pieces (length row)) pieces
