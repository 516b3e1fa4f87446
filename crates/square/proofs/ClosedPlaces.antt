-- Laws of closing a square place by place.
use mathlib.Core.Path.{◌≡◌, sym, ap, ap₂, ◌∙◌}
use mathlib.Core.List.{List, []}
use Prim.Native.Nat.{ℕ, ◌+◌, ◌-◌, ◌≤◌, ◌<◌, min}
use native.Mathlib.Decide.{dec_le}
use native.Mathlib.Omega.{arith}
use native.Mathlib.Numerals.{add-one}
use lib.ListN.{length, get_or, set, length-set}
use lib.Seq.{get_or-set_same, get_or-set_other, ext_get_or}
use Rattle.calculus.specs.Numbers.Least.{least}
use Rattle.calculus.specs.Numbers.Lists.{list_of}
use Rattle.square_calculus.specs.Square.{square_entry, square_envelope, closure_of, closed_square}
use Rattle.calculus.proofs.Numbers.Least.{least_attained, least_cong, least-suc}
use Rattle.calculus.proofs.Numbers.Lists.{length-list_of, list_of_at}
use Rattle.square_calculus.proofs.Square.{closure_of-zero, closure_of_under, closure_of_recursive}
use Rattle.square_calculus.proofs.SquareRows.{envelope_at_lem, square_of_only}
use Rattle.square.specs.Refusals.{Small}

-- The sums of a row with a column.
module _ (square : List (List ℕ)) (row : List ℕ) (column : ℕ) where
  abbrev pub sums : ℕ → ℕ
  sums k = get_or row k 0 + square_entry square k column

  -- Each fits in 32 bits.
  pub sum_fits : ((k : ℕ) → get_or row k 0 ≤ 4000000000) → Small square → (k : ℕ) → k ≤ 32 → column ≤ 32
      → get_or row k 0 + get_or (get_or square k []) column 0 < 4294967296
  unfolding Small square_entry
  sum_fits low small k p q = omega (arith, low k, small k column p q)

  pub sums_first : (first : ℕ) → get_or row first 0 + get_or (get_or square first []) column 0 ≡ least first first sums
  unfolding square_entry
  sums_first first =
      let (k, p, q, e) = least_attained first first sums (omega arith) in
      let same : k ≡ first = omega arith in
      sym (e ∙ ap sums same)

  -- One row more.
  pub sums_next : (first r v w : ℕ) → first ≤ r → v ≡ least first r sums → w ≡ min v (get_or row (r + 1) 0 + get_or (get_or square (r + 1) []) column 0)
      → w ≡ least first (r + 1) sums
  unfolding square_entry
  sums_next first r v w p e next = next ∙ ap (λ (z : ℕ). min z (sums (r + 1))) e ∙ sym (rw add-one (least-suc first r sums p))

-- Row s of the closure, worked up to slot t: the slots after it are still 0.
pub record ClosedTo (square : List (List ℕ)) (s t : ℕ) (row : List ℕ) : Type 0 where
  pub long : length row ≡ 33
  pub done : (k : ℕ) → k ≤ t → get_or row k 0 ≡ closure_of (square_envelope square) s k
  pub rest : (k : ℕ) → t < k → get_or row k 0 ≡ 0

module _ (square : List (List ℕ)) (small : Small square) (s : ℕ) (row-s : s ≤ 32) where
  abbrev G : ℕ → ℕ
  G = closure_of (square_envelope square) s

  closed_small : (k : ℕ) → k ≤ 32 → G k ≤ 1000000
  unfolding Small
  closed_small k p =
      elim (dec_le k s) [
        | yes q ↦ omega (arith, closure_of-zero (square_envelope square) s k q)
        | no q ↦ omega (arith, closure_of_under (square_envelope square) s k (omega arith), envelope_at_lem square s k row-s p, small s k row-s p)
      ]

  -- Up to the diagonal all is 0.
  pub closing_starts : (row : List ℕ) → length row ≡ 33 → ((k : ℕ) → get_or row k 0 ≡ 0) → ClosedTo square s s row
  closing_starts row long blank =
      record { long = long; done = λ k p. blank k ∙ sym (closure_of-zero (square_envelope square) s k p); rest = λ k p. blank k }

  module _ (t : ℕ) (row : List ℕ) (turn : ClosedTo square s t row) where
    pub closing_low : t ≤ 32 → (k : ℕ) → get_or row k 0 ≤ 4000000000
    closing_low p k =
        elim (dec_le k t) [
          | yes q ↦ omega (arith, turn.done k q, closed_small k (omega arith))
          | no q ↦ omega (arith, turn.rest k (omega arith))
        ]

    -- One slot more: lemma 2.1 (iv).
    pub closing_next : s ≤ t → t < 32 → (v : ℕ) → v ≡ least s t (λ k. get_or row k 0 + square_entry square k (t + 1)) → ClosedTo square s (t + 1) (set row (t + 1) v)
    closing_next st p v e =
        record {
          long = length-set row (t + 1) v ∙ turn.long;
          done = λ k q. done k q;
          rest = λ k q. get_or-set_other row (t + 1) k v 0 (λ z. omega arith) ∙ turn.rest k (omega arith);
        }
      where
        worked : v ≡ G (t + 1)
        worked =
            let last : t + 1 - 1 ≡ t = omega arith in
            e
            ∙ least_cong s t _ _ st (λ k sk kt. ap₂ ◌+◌ (turn.done k kt) (sym (envelope_at_lem square k (t + 1) (omega arith) (omega arith))))
            ∙ sym (rw last at (closure_of_recursive (square_envelope square) s (t + 1) (omega arith)))

        done : (k : ℕ) → k ≤ t + 1 → get_or (set row (t + 1) v) k 0 ≡ G k
        done k q =
            elim (dec_le k t) [
              | yes r ↦ get_or-set_other row (t + 1) k v 0 (λ z. omega arith) ∙ turn.done k r
              | no r ↦ let same : k ≡ t + 1 = omega arith in
                  rw same (get_or-set_same row (t + 1) v 0 (omega (arith, turn.long)) ∙ worked)
            ]

    pub closing_on : (next : ℕ) → t + 1 ≡ next → s ≤ t → t < 32 → (v : ℕ) → v ≡ least s t (λ k. get_or row k 0 + square_entry square k next) → ClosedTo square s next (set row next v)
    closing_on next is st p v e = rw (← is) (closing_next st p v (rw (← is) at e))

    -- At slot 32 the row is worked.
    pub closing_ends : t ≡ 32 → row ≡ list_of G 33
    closing_ends e =
        ext_get_or 0 row (list_of G 33) (turn.long ∙ sym (length-list_of G 33))
        (λ k p. turn.done k (omega (arith, turn.long)) ∙ sym (list_of_at G 33 k (omega (arith, turn.long))))

-- The closure's rows, worked before row s.
pub record RowsTo (square : List (List ℕ)) (s : ℕ) (made : List (List ℕ)) : Type 0 where
  pub long : length made ≡ 33
  pub done : (k : ℕ) → k < s → get_or made k [] ≡ list_of (closure_of (square_envelope square) k) 33

module _ (square : List (List ℕ)) where
  pub rows_end : (s : ℕ) (made : List (List ℕ)) → RowsTo square s made → s ≡ 33 → made ≡ closed_square square
  unfolding closed_square
  rows_end s made turn e = square_of_only (closure_of (square_envelope square)) made turn.long (λ k p. turn.done k (omega arith))
