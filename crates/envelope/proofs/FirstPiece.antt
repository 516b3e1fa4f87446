-- Looking for the first piece in the row in which f was worked: its first value is f at a window, and the value k places after it is f at
-- the window that remains after k.
use mathlib.Core.Path.{◌≡◌, refl, sym, ap, ap₂, ◌∙◌}
use mathlib.Core.List.{List}
use Prim.Native.Nat.{ℕ, zero, suc, ◌+◌, ◌-◌, ◌≤◌, ◌<◌, min}
use native.Mathlib.Nat.{le_antisymm}
use native.Mathlib.Decide.{dec_le}
use native.Mathlib.Omega.{arith}
use lib.ListN.{length, get_or, take, drop}
use borrow.Author.Tests.{eq-eqb}
use Rattle.calculus.specs.Numbers.Lists.{newest_first}
use Rattle.calculus.proofs.Numbers.Lists.{newest_first_at}
use Rattle.calculus.proofs.Envelopes.Piece.{piece-zero, piece_makes, piece-smallest}
use Rattle.orders.specs.Refusal.{pick}
use Rattle.numbers.specs.LeastSum.{least_with}
use Rattle.numbers.proofs.LeastSum.{drop_whole}
use Rattle.envelope.specs.ClosureRow.{closed_by, piece_by, Told, told_by}
use Rattle.envelope.proofs.ToldPiece.{NoneBetween, told_is}
use Rattle.envelope.proofs.ClosureRow.{closed_by_small, past_at, entry_at, closed_by_ends}

-- At window 0 the piece is 0.
pub piece_by-zero : (table : List ℕ) (last n : ℕ) → n ≡ 0 → 0 ≡ piece_by table last n
unfolding piece_by
piece_by-zero table last n e = rw e (sym (piece-zero last (λ k. get_or table k 0)))

module _ (table : List ℕ) (last : ℕ) (row : List ℕ) (pos : 1 ≤ last) (long : 2 ≤ length row) (filled : row ≡ newest_first (closed_by table last) (length row)) where
  row_at : (k : ℕ) → k < length row → get_or row k 0 ≡ closed_by table last (length row - 1 - k)
  row_at k p =
      ap (λ (l : List ℕ). get_or l k 0) filled ∙ newest_first_at (closed_by table last) (length row) k p ∙ ap (closed_by table last) (omega arith)

  row_first : get_or row 0 0 ≡ closed_by table last (length row - 1)
  row_first = ap (λ (l : List ℕ). get_or l 0 0) filled ∙ newest_first_at (closed_by table last) (length row) 0 (omega arith)

  -- No sum leaves 32 bits.
  pub piece_fits : length row ≤ 4161 → ((k : ℕ) → get_or table k 0 ≤ 1000000) → (k : ℕ) → k < length row → get_or table k 0 + get_or row k 0 < 4294967296
  piece_fits short small k p = omega (arith, row_at k p, closed_by_small table last pos small (length row - 1 - k), small k)

  -- The piece is in the table and in the row, and there the sum is f.
  pub piece_there : (1 ≤ piece_by table last (length row - 1)) × (piece_by table last (length row - 1) ≤ last) × (piece_by table last (length row - 1) < length row)
      × (get_or table (piece_by table last (length row - 1)) 0 + get_or row (piece_by table last (length row - 1)) 0 ≡ get_or row 0 0)
  unfolding piece_by closed_by
  piece_there =
      let (from, to, within, makes) = piece_makes last (λ k. get_or table k 0) pos (length row - 1) (omega arith) in
      (from, to, omega arith, omega (arith, row_at (piece_by table last (length row - 1)) (omega arith), row_first))

  -- Where the sum is not f, the piece is further on.
  pub piece_later : (k : ℕ) → k ≤ piece_by table last (length row - 1) → (get_or table k 0 + get_or row k 0 ≡ get_or row 0 0 → ⊥) → k + 1 ≤ piece_by table last (length row - 1)
  piece_later k p other =
      elim (dec_le (k + 1) (piece_by table last (length row - 1))) [
        | yes r ↦ r
        | no r ↦ let e : k ≡ piece_by table last (length row - 1) = omega arith in absurd (other (rw e piece_there.3))
      ]

  -- Where it is f, no window before having been the piece, the piece is here.
  pub piece_here : (k : ℕ) → 1 ≤ k → k ≤ piece_by table last (length row - 1) → get_or table k 0 + get_or row k 0 ≡ get_or row 0 0 → k ≡ piece_by table last (length row - 1)
  unfolding piece_by closed_by
  piece_here k from p e =
      le_antisymm p
      (piece-smallest last (λ j. get_or table j 0) (length row - 1) k from (omega (arith, piece_there.1)) (omega (arith, piece_there.2))
      (omega (arith, row_at k (omega (arith, piece_there.2)), row_first)))

-- What is told of a window, however it is written.
pub told_at : (table : List ℕ) (last first between f : ℕ) {n window : ℕ} → window ≡ n
    → Told (told_by first between f (min n last)) (piece_by table last n) → Told (told_by first between f (min window last)) (piece_by table last window)
told_at table last first between f e told = rw e told

-- Where there are no sums, nothing is told.
told_none : (m piece : ℕ) → m ≡ 0 → Told (told_by 1 0 0 m) piece
unfolding told_by pick
told_none m piece e given = absurd (given (ap (told_by 1 0 0) e))

pub told-zero : (table : List ℕ) (last n : ℕ) → n ≡ 0 → Told (told_by 1 0 0 (min n last)) (piece_by table last n)
told-zero table last n e = told_none (min n last) (piece_by table last n) (omega arith)

-- Where the sum with window 1 is the only one, it is told.
pub told_one : (first between m piece : ℕ) → 1 ≡ piece → Told (told_by first between first m) piece
unfolding told_by pick
told_one first between m piece one given = rw (eq-eqb first first refl) one

-- The least sum is none of those that it was taken from.
least_with_under : (first : ℕ) (a b : List ℕ) (n i : ℕ) → i < n → least_with first a b n ≤ get_or a i 0 + get_or b i 0
unfolding least_with
least_with_under first a b zero i p = absurd (omega arith)
least_with_under first a b (suc n) i p =
    elim (dec_le (suc i) n) [
      | yes q ↦ omega (arith, least_with_under first a b n i q)
      | no q ↦ let e : i ≡ n = omega arith in rw e (omega arith)
    ]

module _ (table : List ℕ) (last : ℕ) (row : List ℕ) (at n : ℕ) (pos : 1 ≤ last) (some : 1 ≤ n) (before : drop at row ≡ newest_first (closed_by table last) n) where
  abbrev piece : ℕ
  piece = piece_by table last n

  makes : (1 ≤ piece) × (piece ≤ last) × (piece ≤ n) × (get_or table piece 0 + closed_by table last (n - piece) ≡ closed_by table last n)
  unfolding piece_by closed_by
  makes = piece_makes last (λ k. get_or table k 0) pos n some

  smallest : (k : ℕ) → 1 ≤ k → k ≤ last → k ≤ n → get_or table k 0 + closed_by table last (n - k) ≡ closed_by table last n → piece ≤ k
  unfolding piece_by closed_by
  smallest = piece-smallest last (λ k. get_or table k 0) n

  -- The sum with window 1 makes f: the piece is window 1.
  pub told-first : closed_by table last (n - 1) + get_or table 1 0 ≡ closed_by table last n → 1 ≡ piece
  told-first e = le_antisymm makes.0 (smallest 1 (omega arith) pos some (omega arith))

  module _ (small : (k : ℕ) → get_or table k 0 ≤ 1000000) where
    -- A piece between is one of the sums.
    between_makes : 2 ≤ piece → get_or (drop (at + 1) row) (piece - 2) 0 + get_or (drop 2 table) (piece - 2) 0 ≡ closed_by table last n
    between_makes p =
        let two : suc (suc (piece - 2)) ≡ piece = omega arith in
        omega (
          arith,
          rw two at (past_at table last pos small row at n before (piece - 2) (omega (arith, makes.2))),
          rw two at (entry_at table last pos small row at n before (piece - 2)),
          makes.3,
        )

    -- Where no sum but the last makes f, the piece is the last window.
    told-last : (first between f m : ℕ) → m ≡ min n last → first ≡ closed_by table last (n - 1) + get_or table 1 0
        → between ≡ least_with 4294967295 (drop (at + 1) row) (drop 2 table) (m - 2) → f ≡ closed_by table last n → (first ≡ f → ⊥) → NoneBetween f between → m ≡ piece
    told-last first between f m em e1 e2 e3 other less =
        elim (dec_le m piece) [
          | yes r ↦ omega (arith, makes.1, makes.2)
          | no r ↦ elim (dec_le piece 1) [
            | yes one ↦ let e : piece ≡ 1 = omega (arith, makes.0) in absurd (other (omega (arith, rw e at makes.3)))
            | no more ↦ absurd (omega (arith, least_with_under 4294967295 (drop (at + 1) row) (drop 2 table) (m - 2) (piece - 2) (omega arith), between_makes (omega arith)))
          ]
        ]

    -- What is told of the piece is so.
    told-piece : (first between f m : ℕ) → m ≡ min n last → first ≡ closed_by table last (n - 1) + get_or table 1 0
        → between ≡ least_with 4294967295 (drop (at + 1) row) (drop 2 table) (m - 2) → f ≡ closed_by table last n → Told (told_by first between f m) piece
    told-piece first between f m em e1 e2 e3 =
        told_is first between f m piece (λ same. told-first (omega arith)) (told-last first between f m em e1 e2 e3)

    -- The least of the sum with window 1, of those between and of the one with the last window, and what they tell.
    pub next_worked : n ≤ 4160 → (m : ℕ) → m ≡ min n last → (m ≡ 1 → ⊥) → (newest between lower f : ℕ) → newest ≡ closed_by table last (n - 1)
        → between ≡ least_with 4294967295 (take (length row - (at + 1)) (drop (at + 1) row)) (take (length table - 2) (drop 2 table)) (m - 2)
        → lower ≡ min between (get_or row (at + m - 1) 0 + get_or table m 0) → f ≡ min lower (newest + get_or table 1 0)
        → (f ≡ closed_by table last n) × Told (told_by (newest + get_or table 1 0) between f (min n last)) piece
    next_worked few m em other newest between lower f e0 eb el ef =
        let first = ap (λ (k : ℕ). k + get_or table 1 0) e0 in
        let least = eb ∙ ap₂ (λ (a b : List ℕ). least_with 4294967295 a b (m - 2)) (drop_whole (at + 1) row) (drop_whole 2 table) in
        let value = ef ∙ ap₂ min (el ∙ ap (λ (k : ℕ). min k (get_or row (at + m - 1) 0 + get_or table m 0)) least) first
        ∙ closed_by_ends table last pos small row at n before m em (omega arith) some few in
        (value, rw (← em) (told-piece (newest + get_or table 1 0) between f m em first least value))
