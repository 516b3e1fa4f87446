-- Laws of a row of totals that moves on by a place.
use Rattle.std.proofs.Common.{◌≡◌, ℕ, zero, suc, ◌+◌, ◌<◌, ◌≤◌, min, List, [], ◌∷◌, length, get_or, set, refl, ap, ◌∙◌, ap₂, arith}
use Rattle.numbers.specs.LeastSum.{sum_at, four_sums, least_sum}
use Rattle.numbers.proofs.LeastSum.{least_sum_more, least_sum_four}
use Rattle.least_sum.specs.Pushed.{pushed, newest_put, Moving}

-- The row keeps its length.
pub length-pushed : (n y : ℕ) (row : List ℕ) → length (pushed n y row) ≡ length row
unfolding pushed
length-pushed zero y row = refl
length-pushed (suc n) y [] = refl
length-pushed (suc n) y (x ∷ row) = ap suc (length-pushed n x row)

-- The newest total stands first.
pub pushed_newest : (n y : ℕ) (row : List ℕ) → 1 ≤ n → 1 ≤ length row → get_or (pushed n y row) 0 0 ≡ y
unfolding pushed
pushed_newest zero y row p q = absurd (omega arith)
pushed_newest (suc n) y [] p q = absurd (omega arith)
pushed_newest (suc n) y (x ∷ row) p q = refl

-- Each earlier one moves back by one.
pub pushed_older : (n y : ℕ) (row : List ℕ) (k : ℕ) → suc k < n → suc k < length row → get_or (pushed n y row) (suc k) 0 ≡ get_or row k 0
unfolding pushed
pushed_older zero y row k p q = absurd (omega arith)
pushed_older (suc n) y [] k p q = absurd (omega arith)
pushed_older (suc n) y (x ∷ row) zero p q = pushed_newest n x row (omega arith) (omega arith)
pushed_older (suc n) y (x ∷ row) (suc k) p q = pushed_older n x row k (omega arith) (omega arith)

-- The places past the last are as they were.
pub pushed_beyond : (n y : ℕ) (row : List ℕ) (k : ℕ) → n ≤ k → get_or (pushed n y row) k 0 ≡ get_or row k 0
unfolding pushed
pushed_beyond zero y row k p = refl
pushed_beyond (suc n) y [] k p = refl
pushed_beyond (suc n) y (x ∷ row) zero p = absurd (omega arith)
pushed_beyond (suc n) y (x ∷ row) (suc k) p = pushed_beyond n x row k (omega arith)

-- Nothing is pushed where there is no place.
pub pushed_nowhere : (last newest : ℕ) (row : List ℕ) → min last (length row) ≡ 0 → row ≡ pushed last newest row
unfolding pushed
pushed_nowhere zero newest row e = refl
pushed_nowhere (suc last) newest [] e = refl
pushed_nowhere (suc last) newest (x ∷ row) e = absurd (omega arith)

-- A total that becomes known later takes the place that was kept for it.
pub pushed_put : (last newest kept : ℕ) (row : List ℕ) → newest_put last newest (pushed last kept row) ≡ pushed last newest row
unfolding pushed newest_put
pushed_put zero newest kept row = refl
pushed_put (suc last) newest kept [] = refl
pushed_put (suc last) newest kept (x ∷ row) = refl

-- What is put is put first.
pub put_nowhere : (last newest : ℕ) (row : List ℕ) → last ≡ 0 → row ≡ newest_put last newest row
unfolding newest_put
put_nowhere last newest row e = rw e

pub put_first : (last newest : ℕ) (row : List ℕ) → 1 ≤ last → set row 0 newest ≡ newest_put last newest row
unfolding newest_put
put_first zero newest row p = absurd (omega arith)
put_first (suc last) newest row p = refl

-- One place more.
pushed_next : (i z : ℕ) (row : List ℕ) → i < length row → set (pushed i z row) i (get_or (z ∷ row) i 0) ≡ pushed (suc i) z row
unfolding pushed
pushed_next zero z [] p = absurd (omega arith)
pushed_next zero z (x ∷ row) p = refl
pushed_next (suc i) z [] p = absurd (omega arith)
pushed_next (suc i) z (x ∷ row) p = ap (λ (l : List ℕ). z ∷ l) (pushed_next i x row (omega arith))

-- Before the first place nothing has moved.
pub moving_none : (given : List ℕ) → Moving given 0 given 0
unfolding pushed
moving_none given = record { moved = refl; next = refl }

module _ (given : List ℕ) (i : ℕ) (row : List ℕ) (before : ℕ) (moving : Moving given i row before) where
  -- The row keeps its length.
  pub moving_long : length row ≡ length given
  moving_long = ap length moving.moved ∙ length-pushed i 0 given

  -- What has not moved is as it was.
  moving-kept : (k : ℕ) → i ≤ k → get_or row k 0 ≡ get_or given k 0
  moving-kept k p = ap (λ (l : List ℕ). get_or l k 0) moving.moved ∙ pushed_beyond i 0 given k p

  -- One place more has moved.
  pub moving_more : (j : ℕ) (after : List ℕ) (stood : ℕ) → j ≡ i + 1 → i < length given → stood ≡ get_or row i 0 → after ≡ set row i before → Moving given j after stood
  moving_more j after stood e p stands puts =
      let more : j ≡ suc i = omega arith in
      rw more (record {
        moved = puts ∙ ap₂ (λ (l : List ℕ) (v : ℕ). set l i v) moving.moved moving.next ∙ pushed_next i 0 given p;
        next = stands ∙ moving-kept i (omega arith);
      })

  -- Sums with what has not moved are those of the given row: the least one with one place more, and with four.
  moving-sum : (b : List ℕ) (k : ℕ) → i ≤ k → sum_at row b k ≡ sum_at given b k
  unfolding sum_at
  moving-sum b k p = rw (moving-kept k p)

  pub moving-least : (b : List ℕ) (least sum after : ℕ) → least ≡ least_sum given b i → sum ≡ sum_at row b i → after ≡ min least sum → after ≡ least_sum given b (i + 1)
  moving-least b least sum after before-it adds takes =
      takes ∙ ap₂ min before-it (adds ∙ moving-sum b i (omega arith)) ∙ least_sum_more given b i

  pub moving-least_four : (b : List ℕ) (least sum after : ℕ) → least ≡ least_sum given b i → sum ≡ four_sums row b i → after ≡ min least sum → after ≡ least_sum given b (i + 4)
  unfolding four_sums
  moving-least_four b least sum after before-it adds takes =
      let four : four_sums row b i ≡ four_sums given b i =
      rw (moving-sum b i (omega arith), moving-sum b (i + 1) (omega arith), moving-sum b (i + 2) (omega arith), moving-sum b (i + 3) (omega arith)) in
      takes ∙ ap₂ min before-it (adds ∙ four) ∙ least_sum_four given b i
