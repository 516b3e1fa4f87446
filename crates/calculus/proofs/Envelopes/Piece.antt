-- Laws of the first piece, for every L: it exists, none smaller does, the pieces make up the window and f, and the closed entries
-- have the same piece.
use mathlib.Core.Path.{◌≡◌, refl, sym, ap, ◌∙◌, subst}
use mathlib.Core.List.{List, ◌∷◌}
use Prim.Native.Nat.{ℕ, zero, suc, ◌+◌, ◌-◌, ◌≤◌, ◌<◌, min}
use native.Mathlib.Nat.{le_antisymm}
use native.Mathlib.Decide.{dec_le}
use native.Mathlib.Omega.{arith}
use lib.Dec.{T, eqb, eqb_refl, eqb→eq}
use Rattle.calculus.specs.Envelopes.Closure.{closure, cost, Composition, empty, piece, Table}
use Rattle.calculus.specs.Envelopes.Piece.{piece_of, first_piece, pieces_within, pieces}
use Rattle.calculus.proofs.Numbers.Course.{strongly}
use Rattle.calculus.proofs.Numbers.FirstWhere.{first_where_below, first_where-holds}
use Rattle.calculus.proofs.Envelopes.Closure.{closure-zero, closure_within, closure_attained, closure_under, closure_rises, closure_adds, closure_closed, closure_largest, closure_cong}

equal : (a b : ℕ) → a ≡ b → T (eqb a b)
equal a b e = rw e (eqb_refl b)

module _ (L : ℕ) (entry f : ℕ → ℕ) where
  -- Where some window makes up f, the piece does, and none smaller.
  piece_of_below : (n k : ℕ) → 1 ≤ k → k ≤ L → k ≤ n → entry k + f (n - k) ≡ f n → piece_of L entry f n ≤ k
  unfolding piece_of
  piece_of_below zero k p q r e = omega arith
  piece_of_below (suc n) k p q r e =
      first_where_below 1 (min L (suc n)) (λ k. eqb (entry k + f (suc n - k)) (f (suc n))) k p (omega arith) (equal _ _ e)

  piece_of-holds : (n k : ℕ) → 1 ≤ k → k ≤ L → k ≤ n → entry k + f (n - k) ≡ f n
      → (1 ≤ piece_of L entry f n) × (entry (piece_of L entry f n) + f (n - piece_of L entry f n) ≡ f n)
  unfolding piece_of
  piece_of-holds zero k p q r e = absurd (omega arith)
  piece_of-holds (suc n) k p q r e =
      let (from, holds) = first_where-holds 1 (min L (suc n)) (λ k. eqb (entry k + f (suc n - k)) (f (suc n))) (omega arith) (omega (arith, piece_of_below (suc n) k p q r e)) in
      (from, eqb→eq _ _ holds)

module _ (L : ℕ) (table : ℕ → ℕ) where
  -- For window 0 the piece is 0.
  pub piece-zero : first_piece L table 0 ≡ 0
  unfolding first_piece piece_of
  piece-zero = refl

  -- No k below the piece makes up f.
  pub piece-smallest : (n k : ℕ) → 1 ≤ k → k ≤ L → k ≤ n → table k + closure L table (n - k) ≡ closure L table n → first_piece L table n ≤ k
  unfolding first_piece
  piece-smallest = piece_of_below L table (closure L table)

  module _ (pos : 1 ≤ L) where
    -- For every window of 1 or more the piece is from 1 to L and not above the window, and its entry plus f at the remaining window is f.
    pub piece_makes : (n : ℕ) → 1 ≤ n
        → (1 ≤ first_piece L table n) × (first_piece L table n ≤ L) × (first_piece L table n ≤ n) × (table (first_piece L table n) + closure L table (n - first_piece L table n) ≡ closure L table n)
    unfolding first_piece
    piece_makes zero p = absurd (omega arith)
    piece_makes (suc n) p =
        let (k, k1, k_l, kn, e) = closure_attained L table pos n in
        let (from, makes) = piece_of-holds L table (closure L table) (suc n) k k1 k_l kn (sym e) in
        let small = piece_of_below L table (closure L table) (suc n) k k1 k_l kn (sym e) in
        (from, omega arith, omega arith, makes)

    -- A k that makes up f, where none smaller does, is the piece.
    pub piece_only : (n k : ℕ) → 1 ≤ k → k ≤ L → k ≤ n → table k + closure L table (n - k) ≡ closure L table n
        → ((j : ℕ) → 1 ≤ j → j < k → table j + closure L table (n - j) ≡ closure L table n → ⊥) → first_piece L table n ≡ k
    piece_only n k k1 k_l kn e before =
        let small = piece-smallest n k k1 k_l kn e in
        let (from, to, within, makes) = piece_makes n (omega arith) in
        elim (dec_le k (first_piece L table n)) [
          | yes r ↦ le_antisymm small r
          | no r ↦ absurd (before (first_piece L table n) from (omega arith) makes)
        ]

    -- As many steps as the window has slots, or more, find the same pieces.
    pieces_within_alike : (a b n : ℕ) → n ≤ a → n ≤ b → pieces_within a L table n ≡ pieces_within b L table n
    unfolding pieces_within
    pieces_within_alike zero zero n p q = refl
    pieces_within_alike zero (suc b) n p q = let e : n ≡ 0 = omega arith in rw e refl
    pieces_within_alike (suc a) zero n p q = let e : n ≡ 0 = omega arith in rw e refl
    pieces_within_alike (suc a) (suc b) zero p q = refl
    pieces_within_alike (suc a) (suc b) (suc n) p q =
        let (from, to, within, makes) = piece_makes (suc n) (omega arith) in
        ap (λ (l : List ℕ). first_piece L table (suc n) ∷ l) (pieces_within_alike a b (suc n - first_piece L table (suc n)) (omega arith) (omega arith))

    -- The pieces of a window are its first piece and then those of the window that remains.
    pub pieces_again : (n : ℕ) → 1 ≤ n → pieces L table n ≡ first_piece L table n ∷ pieces L table (n - first_piece L table n)
    unfolding pieces pieces_within
    pieces_again zero p = absurd (omega arith)
    pieces_again (suc n) p =
        let (from, to, within, makes) = piece_makes (suc n) p in
        let rest = suc n - first_piece L table (suc n) in
        ap (λ (l : List ℕ). first_piece L table (suc n) ∷ l) (pieces_within_alike n rest rest (omega arith) (omega arith))

    -- They are windows of 1 to L that add up to the window.
    pub pieces_compose : (n : ℕ) → Composition L n (pieces L table n)
    pieces_compose = strongly (λ n. Composition L n (pieces L table n)) step
      where
        step : (n : ℕ) → ((k : ℕ) → k < n → Composition L k (pieces L table k)) → Composition L n (pieces L table n)
        step zero ih = unfold pieces pieces_within in empty
        step (suc n) ih =
            let (from, to, within, makes) = piece_makes (suc n) (omega arith) in
            let k = first_piece L table (suc n) in
            let whole : k + (suc n - k) ≡ suc n = omega arith in
            rw (pieces_again (suc n) (omega arith)) (subst (λ (m : ℕ). Composition L m (k ∷ pieces L table (suc n - k))) whole (piece k from to (ih (suc n - k) (omega arith))))

    -- Their entries add up to f.
    pub pieces-cost : (n : ℕ) → cost table (pieces L table n) ≡ closure L table n
    pieces-cost = strongly (λ n. cost table (pieces L table n) ≡ closure L table n) step
      where
        step : (n : ℕ) → ((k : ℕ) → k < n → cost table (pieces L table k) ≡ closure L table k) → cost table (pieces L table n) ≡ closure L table n
        step zero ih = unfold pieces pieces_within cost in sym (closure-zero L table pos)
        step (suc n) ih =
            let (from, to, within, makes) = piece_makes (suc n) (omega arith) in
            rw (pieces_again (suc n) (omega arith)) (unfold cost in omega (arith, ih (suc n - first_piece L table (suc n)) (omega arith)))

-- Tables that agree at the windows 1 to L have the same piece.
pub piece_cong : (L : ℕ) (table other : ℕ → ℕ) → 1 ≤ L → ((k : ℕ) → 1 ≤ k → k ≤ L → table k ≡ other k) → (n : ℕ) → first_piece L table n ≡ first_piece L other n
piece_cong L table other pos same zero = piece-zero L table ∙ sym (piece-zero L other)
piece_cong L table other pos same (suc n) =
    le_antisymm
    (below L table other pos same (suc n) (omega arith))
    (below L other table pos (λ k p q. sym (same k p q)) (suc n) (omega arith))
  where
    below : (L : ℕ) (table other : ℕ → ℕ) → 1 ≤ L → ((k : ℕ) → 1 ≤ k → k ≤ L → table k ≡ other k) → (n : ℕ) → 1 ≤ n → first_piece L table n ≤ first_piece L other n
    below L table other pos same n p =
        let (from, to, within, makes) = piece_makes L other pos n p in
        let k = first_piece L other n in
        piece-smallest L table n k from to within
        (omega (arith, same k from to, closure_cong L table other pos same (n - k), closure_cong L table other pos same n))

module _ (L : ℕ) (table : ℕ → ℕ) (given : Table L table) where
  -- A window whose given entry makes up f makes it up with the closed entry, too.
  makes_closed : (n k : ℕ) → k ≤ L → k ≤ n → table k + closure L table (n - k) ≡ closure L table n → closure L table k + closure L table (n - k) ≡ closure L table n
  makes_closed n k k_l kn e =
      let whole : k + (n - k) ≡ n = omega arith in
      omega (arith, closure_under L table given k k_l, closure_adds L table given k (n - k), ap (closure L table) whole)

  -- A window whose closed entry makes up f has a first piece whose given entry does.
  makes_given : (n k : ℕ) → 1 ≤ k → k ≤ L → k ≤ n → closure L table k + closure L table (n - k) ≡ closure L table n → first_piece L table n ≤ k
  makes_given n k k1 k_l kn e =
      let (from, to, within, makes) = piece_makes L table given.nonempty k k1 in
      let j = first_piece L table k in
      let rest : k - j + (n - k) ≡ n - j = omega arith in
      omega (arith, piece-smallest L table n j from to (omega arith) (omega (arith, closure_within L table given.nonempty n j from to (omega arith), closure_adds L table given (k - j) (n - k), ap (closure L table) rest)))

  -- The piece with the closed entries in place of the given ones is the same.
  pub piece_closed : (n : ℕ) → piece_of L (closure L table) (closure L table) n ≡ first_piece L table n
  piece_closed zero = unfold piece_of first_piece in refl
  piece_closed (suc n) =
      let (from, to, within, makes) = piece_makes L table given.nonempty (suc n) (omega arith) in
      let closed = makes_closed (suc n) (first_piece L table (suc n)) to within makes in
      let below = piece_of_below L (closure L table) (closure L table) (suc n) _ from to within closed in
      let (from', makes') = piece_of-holds L (closure L table) (closure L table) (suc n) _ from to within closed in
      le_antisymm below (makes_given (suc n) (piece_of L (closure L table) (closure L table) (suc n)) from' (omega arith) (omega arith) makes')

  closed-table : Table L (closure L table)
  closed-table = record { nonempty = given.nonempty; starts = closure-zero L table given.nonempty; rises = λ i j p q. closure_rises L table given i j p }

  -- The closure of the closed table is the closed table.
  pub closure_again : (n : ℕ) → closure L (closure L table) n ≡ closure L table n
  closure_again n =
      let again = closure_closed L (closure L table) closed-table in
      le_antisymm
      (closure_largest L table given (closure L (closure L table))
      (record {
        zero_at_zero = again.zero_at_zero;
        under_table = λ k p. omega (arith, again.under_table k p, closure_under L table given k p);
        subadditive = again.subadditive;
      }) n)
      (closure_largest L (closure L table) closed-table (closure L table)
      (record { zero_at_zero = closure-zero L table given.nonempty; under_table = λ k p. omega arith; subadditive = closure_adds L table given }) n)

  -- So the closed table, taken for a given one, has the same pieces.
  pub piece_again : (n : ℕ) → first_piece L (closure L table) n ≡ first_piece L table n
  piece_again n = unfold first_piece in ap (λ (f : ℕ → ℕ). piece_of L (closure L table) f n) (λ i m. closure_again m i) ∙ piece_closed n
