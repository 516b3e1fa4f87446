-- What the regulator rests on: for an accepted table, every answer is f, and the piece is the given table's.
use mathlib.Core.Path.{◌≡◌, refl, ap, ◌∙◌}
use mathlib.Core.List.{List}
use Prim.Native.Nat.{ℕ, ◌*◌, ◌≤◌, min}
use native.Mathlib.Decide.{dec_le}
use native.Mathlib.Omega.{arith}
use lib.ListN.{length, get_or, get_or-eq_default}
use lib.Dec.{leb}
use borrow.Author.Tests.{le-leb, lt-leb}
use Rattle.calculus.specs.Envelopes.Closure.{closure}
use Rattle.calculus.specs.Envelopes.Piece.{first_piece, table_piece}
use Rattle.calculus.specs.Regulators.Rows.{envelope_of}
use Rattle.calculus.proofs.Numbers.Lists.{length-list_of, list_of_at}
use Rattle.calculus.proofs.Envelopes.Closure.{closure_cong, closure-bound}
use Rattle.calculus.proofs.Envelopes.Piece.{piece_cong}
use Rattle.orders.specs.Refusal.{pick}
use Rattle.refusals.specs.Table.{last_window}
use Rattle.envelope.specs.ClosureRow.{closed_by, piece_by}
use Rattle.envelope.specs.Envelope.{last_used, capped_table, bound, piece_at, near_row, near_to}
use Rattle.settings.specs.Taken.{padded_table, envelope_from}
use Rattle.refusals.proofs.TableJudged.{AcceptedTable}

module _ (table : List ℕ) (ok : AcceptedTable table) where
  last-accepted : last_used (last_window table) ≡ last_window table
  last-accepted = omega (arith, ok.last_from, ok.last_to)

  -- The entries that count are the given ones.
  entry-accepted : (k : ℕ) → 1 ≤ k → k ≤ last_window table → get_or (capped_table (padded_table table)) k 0 ≡ get_or table k 0
  unfolding padded_table capped_table
  entry-accepted k k1 k_l =
      omega (
        arith,
        list_of_at (λ i. min (get_or (padded_table table) i 0) 1000000) 65 k (omega (arith, ok.last_to)),
        list_of_at (λ i. get_or table i 0) 65 k (omega (arith, ok.last_to)),
        ok.small k,
      )

  -- The envelope of an accepted table is the table's closure.
  pub bound-accepted : (n : ℕ) → bound (envelope_from table) n ≡ envelope_of table n
  unfolding bound closed_by envelope_from envelope_of
  bound-accepted n =
      ap (λ (L : ℕ). closure L (λ k. get_or (capped_table (padded_table table)) k 0) n) last-accepted
      ∙ closure_cong (last_window table) _ _ ok.last_from entry-accepted n

  -- Its pieces are those of the given table.
  pub piece-accepted : (n : ℕ) → piece_at (envelope_from table) n ≡ table_piece table n
  unfolding piece_at piece_by envelope_from table_piece
  piece-accepted n =
      ap (λ (L : ℕ). first_piece L (λ k. get_or (capped_table (padded_table table)) k 0) n) last-accepted
      ∙ piece_cong (last_window table) _ _ ok.last_from entry-accepted n

  -- f is at most 1,000,000 a slot.
  pub envelope_of-bound : (n : ℕ) → envelope_of table n ≤ n * 1000000
  unfolding envelope_of
  envelope_of-bound = closure-bound (last_window table) (λ k. get_or table k 0) ok.last_from 1000000 (ok.small 1)

  -- What is kept of the envelope is f as far as that reaches, and small throughout.
  pub length-near_to : (last : ℕ) → length (near_to (envelope_from table) last) ≡ 129
  unfolding near_to
  length-near_to last = length-list_of _ 129

  pub near_to-accepted : (last k : ℕ) → k ≤ last → k ≤ 128 → get_or (near_to (envelope_from table) last) k 0 ≡ envelope_of table k
  unfolding near_to pick
  near_to-accepted last k p q = list_of_at _ 129 k (omega arith) ∙ rw (le-leb k last p) (bound-accepted k)

  pub near_to_small : (last k : ℕ) → get_or (near_to (envelope_from table) last) k 0 ≤ 128000000
  unfolding near_to pick
  near_to_small last k =
      elim (dec_le k 128) [
        | yes q ↦ elim (dec_le k last) [
          | yes p ↦ omega (arith, near_to-accepted last k p q, envelope_of-bound k)
          | no p ↦ let h : ℕ → ℕ = λ i. pick (leb i last) (bound (envelope_from table) i) 0 in
              let zero : h k ≡ 0 = rw (lt-leb k last (omega arith)) refl in
              omega (arith, list_of_at h 129 k (omega arith), zero)
        ]
        | no q ↦ omega (arith, get_or-eq_default (near_to (envelope_from table) last) 0 {n = k} (omega (arith, length-near_to last)))
      ]

  -- A regulator keeps f at the windows 0 to 128.
  pub near-accepted : (k : ℕ) → k ≤ 128 → get_or (near_row (envelope_from table)) k 0 ≡ envelope_of table k
  near-accepted k p = near_to-accepted 128 k p p

  pub length-near : length (near_row (envelope_from table)) ≡ 129
  length-near = length-near_to 128
