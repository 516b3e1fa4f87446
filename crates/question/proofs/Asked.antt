-- The envelope part answers f and its first piece for windows 0 to 4,160: what was taken of an accepted table, asked at a window, is the
-- table's closure there and the closure's first piece. What is handed over at many windows at once is what the question answers window by window.
use mathlib.Core.Path.{◌≡◌, refl, ap₂, ◌∙◌}
use mathlib.Core.List.{List}
use Prim.Native.Nat.{ℕ, suc, ◌-◌, ◌≤◌, ◌<◌}
use native.Mathlib.Omega.{arith}
use lib.ListN.{length, get_or}
use lib.Dec.{leb}
use borrow.Author.Tests.{lt-ltb, le-ltb, le-leb, lt-leb}
use Rattle.calculus.specs.Regulators.Rows.{envelope_of}
use Rattle.calculus.specs.Envelopes.Piece.{table_piece}
use Rattle.calculus.proofs.Numbers.Lists.{list_of_at, newest_first_at}
use Rattle.orders.specs.Refusal.{pick}
use Rattle.refusals.specs.Table.{table_refusal}
use Rattle.settings.specs.Taken.{taken}
use Rattle.envelope.specs.Envelope.{bound, piece_at, near_to, pieces_to}
use Rattle.question.specs.Question.{window_bound, asked}
use Rattle.question.specs.Windows.{WindowsAnswered}
use Rattle.envelope.specs.declared.table.Envelope.{Envelope}
use Rattle.question.specs.declared.question.WindowBound.{WindowBound}
use Rattle.question.specs.Question.{Bound, Refused}
use Rattle.orders.specs.Verdict.{Verdict}
use Rattle.refusals.proofs.TableJudged.{table-accepted}
use Rattle.settings.proofs.TakenTable.{taken-accepted}
use Rattle.settings.proofs.Accepted.{bound-accepted, piece-accepted}
use Rattle.question.proofs.WindowRow.{windows_bounds}

-- What has f and its first piece is the answer for the window.
pub window_bound-is : (r : WindowBound) (e : Envelope) (window : ℕ) → r.packets.0 ≡ bound e window → r.piece.0 ≡ piece_at e window → r ≡ window_bound e window
unfolding window_bound
window_bound-is r e window f piece = ap₂ (λ (x y : ℕ). record { packets = record { 0 = x }; piece = record { 0 = y } }) f piece

-- A window above 4,160 gets 5, whatever the envelope.
pub asked_above : (e : Envelope) (window : ℕ) → 4160 < window → asked e window ≡ Refused 5
unfolding asked pick
asked_above e window p = rw (lt-ltb 4160 window p)

-- An accepted table is answered with f and its first piece at any other window.
pub asked-answers : (table : List ℕ) (window : ℕ) → table_refusal table ≡ 0 → window ≤ 4160
    → asked (taken table).envelope window ≡ Bound (record { packets = record { 0 = envelope_of table window }; piece = record { 0 = table_piece table window } })
unfolding asked pick window_bound
asked-answers table window accepted p =
    rw (← taken-accepted table accepted, le-ltb 4160 window p, bound-accepted table (table-accepted table accepted) window, piece-accepted table (table-accepted table accepted) window)

-- What is handed over at the first windows at once is what the question answers window by window, f and its first piece; after them stands 0.
pub asked-near : (e : Envelope) (last window : ℕ) → window ≤ last → window ≤ 128
    → asked e window ≡ Bound (record { packets = record { 0 = get_or (near_to e last) window 0 }; piece = record { 0 = get_or (pieces_to e last) window 0 } })
unfolding asked pick window_bound near_to pieces_to
asked-near e last window p q =
    rw (
      le-ltb 4160 window (omega arith),
      list_of_at (λ k. pick (leb k last) (bound e k) 0) 129 window (omega arith),
      list_of_at (λ k. pick (leb k last) (piece_at e k) 0) 129 window (omega arith),
      le-leb window last p,
    )

pub near_rest : (e : Envelope) (last window : ℕ) → last < window → window ≤ 128 → (get_or (near_to e last) window 0 ≡ 0) × (get_or (pieces_to e last) window 0 ≡ 0)
unfolding near_to pieces_to pick
near_rest e last window p q = (
  list_of_at _ 129 window (omega arith) ∙ rw (lt-leb window last p) refl,
  list_of_at _ 129 window (omega arith) ∙ rw (lt-leb window last p) refl,
)

-- So is what is handed over at many windows, window 0 last.
pub asked-windows : (e : Envelope) (row pieces : List ℕ) (verdict : Verdict) (row' pieces' : List ℕ) (window : ℕ) → WindowsAnswered e row pieces verdict row' pieces'
    → length row ≤ 4161 → length pieces ≡ length row → window < length row
    → asked e window ≡ Bound (record { packets = record { 0 = get_or row' (length row - suc window) 0 }; piece = record { 0 = get_or pieces' (length row - suc window) 0 } })
unfolding asked pick window_bound
asked-windows e row pieces verdict row' pieces' window answered fits long inside =
    let back : length row - suc (length row - suc window) ≡ window = omega arith in
    let (filled, pieced) = windows_bounds answered fits long in
    rw (le-ltb 4160 window (omega arith), filled, pieced, newest_first_at (bound e) (length row) (length row - suc window) (omega arith), newest_first_at (piece_at e) (length row) (length row - suc window) (omega arith), back)
