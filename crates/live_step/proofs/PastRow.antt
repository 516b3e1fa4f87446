-- Laws of the row of past departed totals.
use mathlib.Core.Path.{◌≡◌, sym, ap, ◌∙◌}
use mathlib.Core.List.{List, [], ◌∷◌, ◌++◌}
use Prim.Native.Nat.{ℕ, zero, suc, ◌+◌, ◌-◌, ◌≤◌, ◌<◌, min}
use native.Mathlib.Decide.{dec_le}
use native.Mathlib.Omega.{arith}
use lib.ListN.{length, get_or, set, take, drop}
use lib.Seq.{ext_get_or}
use Rattle.std.specs.List.{copy_within}
use Rattle.least_sum.specs.Pushed.{pushed}
use Rattle.least_sum.proofs.Pushed.{length-pushed, pushed_newest, pushed_older, pushed_beyond}
use Rattle.live_step.specs.PastPart.{SamePlaces, PutPlaces}

-- What pushing a total makes of a row, piece by piece.
pushed-pieces : (last n newest x : ℕ) (row : List ℕ) → n ≡ min last (length row) → pushed (suc last) newest (x ∷ row) ≡ newest ∷ take n (x ∷ row) ++ drop (suc n) (x ∷ row)
unfolding pushed
pushed-pieces zero n newest x row e = let none : n ≡ 0 = omega arith in rw none
pushed-pieces (suc last) n newest x [] e = let none : n ≡ 0 = omega arith in rw none
pushed-pieces (suc last) zero newest x (z ∷ row) e = absurd (omega arith)
pushed-pieces (suc last) (suc n) newest x (z ∷ row) e = ap (λ (l : List ℕ). newest ∷ l) (pushed-pieces last n x z row (omega arith))

-- All but the last place moved back by one, and the newest total put first.
pub pushed_by_copy : (last n newest : ℕ) (row : List ℕ) → n + 1 ≡ min last (length row) → set (copy_within row 0 n 1) 0 newest ≡ pushed last newest row
pushed_by_copy zero n newest row e = absurd (omega arith)
pushed_by_copy (suc last) n newest [] e = absurd (omega arith)
pushed_by_copy (suc last) n newest (x ∷ row) e =
    let all : n - 0 ≡ n = omega arith in
    let one : 1 + n ≡ suc n = omega arith in
    rw (all, one) (sym (pushed-pieces last n newest x row (omega arith)))

-- Pushing on the past by itself, and putting it back, is pushing on the row.
pub put-pushed : (past row after : List ℕ) (last y : ℕ) → last ≤ 64 → SamePlaces 64 past row → PutPlaces 64 (pushed last y past) row after → after ≡ pushed last y row
put-pushed past row after last y most same put =
    ext_get_or 0 _ _ (put.long ∙ sym (length-pushed last y row))
    (λ k p.
    let inside : k < length row = omega (arith, put.long) in
    elim (dec_le (suc k) 64) [
      | yes q ↦ put.put k q ∙ early k q
      | no q ↦ put.kept k (omega arith) ∙ sym (pushed_beyond last y row k (omega arith))
    ])
  where
    early : (k : ℕ) → k < 64 → get_or (pushed last y past) k 0 ≡ get_or (pushed last y row) k 0
    early k q =
        elim (dec_le (suc k) last) [
          | yes r ↦ first k q r
          | no r ↦ pushed_beyond last y past k (omega arith) ∙ same.same k q ∙ sym (pushed_beyond last y row k (omega arith))
        ]
      where
        first : (k : ℕ) → k < 64 → k < last → get_or (pushed last y past) k 0 ≡ get_or (pushed last y row) k 0
        first zero q r =
            pushed_newest last y past r (omega (arith, same.long)) ∙ sym (pushed_newest last y row r (omega (arith, same.within)))
        first (suc k) q r =
            pushed_older last y past k r (omega (arith, same.long)) ∙ same.same k (omega arith) ∙ sym (pushed_older last y row k r (omega (arith, same.within)))

-- Putting back what was taken out changes nothing.
pub put_same : (past row after : List ℕ) → SamePlaces 64 past row → PutPlaces 64 past row after → after ≡ row
put_same past row after same put =
    ext_get_or 0 _ _ put.long
    (λ k p.
    elim (dec_le (suc k) 64) [
      | yes q ↦ put.put k q ∙ same.same k q
      | no q ↦ put.kept k (omega arith)
    ])
