-- The row of a regulator after a slot.
use mathlib.Core.Path.{◌≡◌, ap, ◌∙◌}
use mathlib.Core.List.{List, ◌++◌}
use Prim.Native.Nat.{ℕ, zero, suc, ◌+◌, ◌-◌, ◌≤◌}
use native.Mathlib.Omega.{arith}
use lib.ListN.{length, get_or, take, drop, set, length-drop}
use lib.Seq.{length-take-le}
use Rattle.std.proofs.lemmas.List.{length-append, get_or_append_left, get_or-append_right, get_or-take, get_or-drop}
use Rattle.least_sum.specs.Pushed.{pushed}
use Rattle.live_step.specs.PastPart.{SamePlaces, PutPlaces}
use Rattle.live_step.specs.Step.{moved_on}
use Rattle.least_sum.proofs.Pushed.{length-pushed}
use Rattle.live_step.proofs.PastRow.{put-pushed, put_same}
use Rattle.orders.specs.Answered.{unless_refused}

-- The first places of a row, taken out ..
pub taken_places : (row past : List ℕ) → 64 ≤ length row → past ≡ take 64 row → SamePlaces 64 past row
taken_places row past long e = record { long = ap length e ∙ length-take-le 64 row long; within = long; same = λ k p. ap (λ (l : List ℕ). get_or l k 0) e ∙ get_or-take 64 row k 0 p }

-- .. moved on where the slot is not refused ..
pub past_long : (k last y : ℕ) (past past' : List ℕ) → past' ≡ unless_refused k (pushed last y past) past → length past ≡ 64 → length past' ≡ 64
unfolding unless_refused
past_long zero last y past past' e long = ap length e ∙ length-pushed last y past ∙ long
past_long (suc k) last y past past' e long = ap length e ∙ long

-- .. and put in again.
pub put_in : (past row row' : List ℕ) → 64 ≤ length row → length past ≡ 64 → row' ≡ past ++ drop 64 row → PutPlaces 64 past row row'
put_in past row row' long short e =
    record {
      long = ap length e ∙ length-append past (drop 64 row) ∙ omega (arith, length-drop 64 row);
      put = λ k p. ap (λ (l : List ℕ). get_or l k 0) e ∙ get_or_append_left past (drop 64 row) 0 k (omega arith);
      kept = λ k p.
          let back : 64 + (k - 64) ≡ k = omega arith in
          ap (λ (l : List ℕ). get_or l k 0) e ∙ get_or-append_right past (drop 64 row) 64 k 0 short p ∙ get_or-drop 64 row (k - 64) 0 ∙ ap (λ (i : ℕ). get_or row i 0) back;
    }

-- The row that is put together again is the row moved on, or as it was.
pub row_moved : (k last y soon late : ℕ) (past past' row row' row'' : List ℕ) → last ≤ 64 → SamePlaces 64 past row → past' ≡ unless_refused k (pushed last y past) past
    → PutPlaces 64 past' row row' → row'' ≡ unless_refused k (set (set row' 64 soon) 65 late) row' → row'' ≡ unless_refused k (moved_on last row y soon late) row
unfolding unless_refused
row_moved zero last y soon late past past' row row' row'' most same e put e' =
    e' ∙ ap (λ (l : List ℕ). set (set l 64 soon) 65 late) (put-pushed past row row' last y most same (rw e at put))
row_moved (suc k) last y soon late past past' row row' row'' most same e put e' = e' ∙ put_same past row row' same (rw e at put)
