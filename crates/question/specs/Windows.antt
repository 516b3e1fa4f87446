-- Many questions at once (document 02, request 2.4).
use Rattle.std.specs.Prelude.{◌≡◌, not, ℕ, suc, List, length, ltb, eqb}
use Rattle.calculus.specs.Numbers.Sizes.{most_asked}
use Rattle.calculus.specs.Numbers.Lists.{newest_first}
use Rattle.orders.specs.Refusal.{◌when◌, ◌or_else◌}
use Rattle.orders.specs.Answered.{verdict_of, unless_refused}
use Rattle.orders.specs.Verdict.{Verdict}
use Rattle.envelope.specs.declared.table.Envelope.{Envelope}
use Rattle.envelope.specs.Envelope.{bound, piece_at}

-- Many questions at once, one for each place of a lent row: 5 for a window above 4,160, then 11 for a list of pieces not as long as the row.
unfoldable pub windows_refusal : ℕ → ℕ → ℕ
windows_refusal row pieces = 5 when ltb (suc most_asked) row or_else 11 when not (eqb pieces row)

-- what is answered, and left in the row and in the list of pieces: f and its first piece at as many windows as the row has places, window 0 last
pub record WindowsAnswered (e : Envelope) (row pieces : List ℕ) (verdict : Verdict) (row' pieces' : List ℕ) : Type 0 where
  pub answered : verdict ≡ verdict_of (windows_refusal (length row) (length pieces))
  pub bounds : row' ≡ unless_refused (windows_refusal (length row) (length pieces)) (newest_first (bound e) (length row)) row
  pub first_pieces : pieces' ≡ unless_refused (windows_refusal (length row) (length pieces)) (newest_first (piece_at e) (length row)) pieces
