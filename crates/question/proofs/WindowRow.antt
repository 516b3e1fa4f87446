-- Laws of many questions at once.
use mathlib.Core.Path.{◌≡◌, ◌∙◌}
use mathlib.Core.Bool.{not}
use mathlib.Core.List.{List}
use Prim.Native.Nat.{ℕ, ◌≤◌, ◌<◌}
use lib.ListN.{length}
use lib.Dec.{ltb, eqb}
use borrow.Author.Tests.{lt-ltb, le-ltb, ltb-false, eq-eqb, ne_eqb, eqb-true, not-false}
use Rattle.calculus.specs.Numbers.Lists.{newest_first}
use Rattle.orders.specs.Refusal.{◌when◌, ◌or_else◌}
use Rattle.orders.specs.Answered.{verdict_of, unless_refused}
use Rattle.envelope.specs.declared.table.Envelope.{Envelope}
use Rattle.orders.specs.Verdict.{Verdict, Refused}
use Rattle.orders.proofs.Refusals.{or_else_none, when_none}
use Rattle.envelope.specs.Envelope.{bound, piece_at, RowAnswered}
use Rattle.envelope.proofs.Filled.{row_bounds, row-accepted}
use Rattle.envelope.proofs.LastPlaceFirst.{placed_all}
use Rattle.question.specs.Windows.{windows_refusal, WindowsAnswered}

-- A row of at most 4,161 places and a list of pieces as long get no number, and nothing else does.
pub windows-asked : (row pieces : ℕ) → row ≤ 4161 → pieces ≡ row → windows_refusal row pieces ≡ 0
unfolding windows_refusal ◌when◌ ◌or_else◌
windows-asked row pieces p e = rw (le-ltb 4161 row p, eq-eqb pieces row e)

pub windows-taken : (row pieces : ℕ) → windows_refusal row pieces ≡ 0 → (row ≤ 4161) × (pieces ≡ row)
unfolding windows_refusal
windows-taken row pieces e =
    let (near, long) = or_else_none (5 when ltb 4161 row) _ e in
    (ltb-false 4161 row (when_none 4 (ltb 4161 row) near), eqb-true pieces row (not-false (eqb pieces row) (when_none 10 (not (eqb pieces row)) long)))

module _ (e : Envelope) (row pieces : List ℕ) where
  -- A row that is too long is left as it was, and so is one with a list of pieces of another length.
  pub windows_far : 4161 < length row → WindowsAnswered e row pieces (Refused 5) row pieces
  unfolding windows_refusal ◌when◌ ◌or_else◌ verdict_of unless_refused
  windows_far far = let long = lt-ltb 4161 (length row) far in record { answered = rw long; bounds = rw long; first_pieces = rw long }

  module _ (short : length row ≤ 4161) where
    pub windows_other : (length pieces ≡ length row → ⊥) → WindowsAnswered e row pieces (Refused 11) row pieces
    unfolding windows_refusal ◌when◌ ◌or_else◌ verdict_of unless_refused
    windows_other other =
        let fine = le-ltb 4161 (length row) short in
        let long = ne_eqb (length pieces) (length row) other in
        record { answered = rw (fine, long); bounds = rw (fine, long); first_pieces = rw (fine, long) }

    -- A list of pieces as long as the row gets those of every window.
    pub windows_filled : {verdict : Verdict} {row' pieces' : List ℕ} → RowAnswered e row pieces verdict row' pieces' → length pieces ≡ length row → WindowsAnswered e row pieces verdict row' pieces'
    unfolding verdict_of unless_refused
    windows_filled filled long =
        let fine = windows-asked (length row) (length pieces) short long in
        let (bounds, first_pieces) = row_bounds e row pieces short filled in
        record {
          answered = rw fine (row-accepted e row pieces short filled);
          bounds = rw fine bounds;
          first_pieces = rw fine (first_pieces ∙ placed_all (piece_at e) (length row) pieces long);
        }

-- An accepted row has f, window 0 last, and the list of pieces its pieces.
pub windows_bounds : {e : Envelope} {row pieces : List ℕ} {verdict : Verdict} {row' pieces' : List ℕ} → WindowsAnswered e row pieces verdict row' pieces' → length row ≤ 4161 → length pieces ≡ length row
    → (row' ≡ newest_first (bound e) (length row)) × (pieces' ≡ newest_first (piece_at e) (length row))
unfolding unless_refused
windows_bounds {e} {row} {pieces} answered short long =
    let fine = windows-asked (length row) (length pieces) short long in
    (rw fine at answered.bounds, rw fine at answered.first_pieces)
