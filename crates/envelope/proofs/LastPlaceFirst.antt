-- Laws of lists whose places get values from the last one on.
use mathlib.Core.Path.{◌≡◌, refl, sym, ap, ◌∙◌}
use mathlib.Core.List.{List}
use Prim.Native.Nat.{ℕ, zero, suc, ◌+◌, ◌-◌, ◌≤◌}
use native.Mathlib.Omega.{arith}
use native.Mathlib.Numerals.{add-one}
use lib.ListN.{length, get_or, drop, set, length-set, drop_of_length-le}
use lib.Seq.{get_or-set_same, set-set}
use Rattle.calculus.specs.Numbers.Lists.{newest_first}
use Rattle.envelope.specs.ClosureRow.{placed}
use Rattle.envelope.proofs.ClosureRow.{next_put, newest_first_full}

module _ (h : ℕ → ℕ) (end : ℕ) (list : List ℕ) where
  pub length-placed : (n : ℕ) → length (placed h end list n) ≡ length list
  unfolding placed
  length-placed zero = refl
  length-placed (suc n) = length-set (placed h end list n) (end - suc n) (h n) ∙ length-placed n

  pub placed_none : (n : ℕ) → n ≡ 0 → list ≡ placed h end list n
  unfolding placed
  placed_none n e = rw e

  -- One value more, at the place before.
  pub placed_more : {n v : ℕ} {before after : List ℕ} → after ≡ set before (end - n - 1) v → before ≡ placed h end list n → v ≡ h n → after ≡ placed h end list (n + 1)
  unfolding placed
  placed_more {n} put held value =
      let place : end - n - 1 ≡ end - suc n = omega arith in
      put ∙ rw (add-one n, place, held, value)

  -- The values stand at the end of a list that has all the places.
  placed-drop : length list ≡ end → (n : ℕ) → n ≤ end → drop (end - n) (placed h end list n) ≡ newest_first h n
  unfolding placed newest_first
  placed-drop long zero p = drop_of_length-le list {i = end - zero} (omega arith)
  placed-drop long (suc n) p =
      let place : end - suc n ≡ end - n - 1 = omega arith in
      let before = placed-drop long n (omega arith) in
      let put = ap (λ (k : ℕ). set (placed h end list n) k (h n)) place in
      rw (add-one n) at (next_put h end n (placed h end list n) (length-placed n ∙ long) p before refl put).1

  -- A list that has no other places holds nothing else.
  pub placed_all : length list ≡ end → placed h end list end ≡ newest_first h end
  placed_all long = newest_first_full h (placed h end list end) end end (omega arith) (omega arith) (placed-drop long end (omega arith))

  -- Window 0's value may stand at its place already.
  placed_again : (n : ℕ) → 1 ≤ n → placed h end (set list (end - 1) (h 0)) n ≡ placed h end list n
  unfolding placed
  placed_again zero p = absurd (omega arith)
  placed_again (suc zero) p = set-set list (end - 1) (h 0) (h 0)
  placed_again (suc (suc n)) p = ap (λ (l : List ℕ). set l (end - suc (suc n)) (h (suc n))) (placed_again (suc n) (omega arith))

  module _ {v : ℕ} (first : List ℕ) (put : first ≡ set list (end - 1) v) (value : v ≡ h 0) where
    pub placed-held : first ≡ placed h end first 1
    unfolding placed
    placed-held = rw (put, value) (sym (set-set list (end - 1) (h 0) (h 0)))

    pub placed_since : (n : ℕ) → 1 ≤ n → placed h end first n ≡ placed h end list n
    placed_since n p = rw (put, value) (placed_again n p)

-- The newest value stands first.
pub placed_first : (h : ℕ → ℕ) (list : List ℕ) (n : ℕ) → 1 ≤ length list → get_or (placed h (n + 1) list (n + 1)) 0 0 ≡ h n
unfolding placed
placed_first h list n p =
    let first : suc n - suc n ≡ 0 = omega arith in
    rw (add-one n, first) (get_or-set_same (placed h (suc n) list n) 0 (h n) 0 (omega (arith, length-placed h (suc n) list n)))
