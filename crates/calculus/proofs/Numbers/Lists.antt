-- Laws of a function's values as a list.
use mathlib.Core.Path.{◌≡◌, refl, sym, ap, ap₂, ◌∙◌}
use mathlib.Core.List.{List, [], ◌∷◌, ◌++◌}
use Prim.Native.Nat.{ℕ, zero, suc, ◌+◌, ◌-◌, ◌≤◌, ◌<◌}
use native.Mathlib.Decide.{dec_le}
use native.Mathlib.Omega.{arith}
use native.Mathlib.Numerals.{add-one}
use lib.ListN.{length, get_or, take, set, replicate, length-append, get_or-append}
use lib.Seq.{get_or_at, take-suc-set, take_all}
use Rattle.calculus.specs.Numbers.Lists.{list_of, newest_first}

pub length-list_of : (h : ℕ → ℕ) (n : ℕ) → length (list_of h n) ≡ n
unfolding list_of
length-list_of h zero = refl
length-list_of h (suc n) = length-append (list_of h n) _ ∙ ap (λ (k : ℕ). k + 1) (length-list_of h n) ∙ add-one n

pub list_of_at : (h : ℕ → ℕ) (n k : ℕ) → k < n → get_or (list_of h n) k 0 ≡ h k
unfolding list_of
list_of_at h zero k p = absurd (omega arith)
list_of_at h (suc n) k p =
    let l : length (list_of h n) ≡ n = length-list_of h n in
    elim (dec_le (suc k) n) [
      | yes q ↦ get_or-append (list_of h n) _ 0 k (omega arith) ∙ list_of_at h n k q
      | no q ↦ let e : k ≡ n = omega arith in rw e (get_or_at (list_of h n) _ [] 0 n l)
    ]

-- Equal functions have equal lists.
pub list_of_cong : (h i : ℕ → ℕ) (n : ℕ) → ((k : ℕ) → k < n → h k ≡ i k) → list_of h n ≡ list_of i n
unfolding list_of
list_of_cong h i zero same = refl
list_of_cong h i (suc n) same =
    ap₂ (λ (l : List ℕ) (x : ℕ). l ++ (x ∷ [])) (list_of_cong h i n (λ k p. same k (omega arith))) (same n (omega arith))

-- A list that is filled up to place i and then gets h(i) is filled one place further.
pub list_of_filled : (h : ℕ → ℕ) (l : List ℕ) (i v : ℕ) → i < length l → take i l ≡ list_of h i → v ≡ h i → take (i + 1) (set l i v) ≡ list_of h (i + 1)
unfolding list_of
list_of_filled h l i v p before e = rw add-one (take-suc-set l i v p ∙ ap₂ (λ (m : List ℕ) (x : ℕ). m ++ (x ∷ [])) before e)

pub length-newest_first : (h : ℕ → ℕ) (n : ℕ) → length (newest_first h n) ≡ n
unfolding newest_first
length-newest_first h zero = refl
length-newest_first h (suc n) = ap suc (length-newest_first h n)

-- The value k places back.
pub newest_first_at : (h : ℕ → ℕ) (n k : ℕ) → k < n → get_or (newest_first h n) k 0 ≡ h (n - suc k)
unfolding newest_first
newest_first_at h zero k p = absurd (omega arith)
newest_first_at h (suc n) zero p = let e : suc n - 1 ≡ n = omega arith in ap h (omega arith)
newest_first_at h (suc n) (suc k) p = newest_first_at h n k (omega arith) ∙ ap h (omega arith)

-- A list that is filled to its end is the function's list.
pub list_of_full : (h : ℕ → ℕ) (l : List ℕ) (n k : ℕ) → k ≤ n → n ≤ k → length l ≡ n → take k l ≡ list_of h k → l ≡ list_of h n
list_of_full h l n k p q long filled =
    let e : k ≡ n = omega arith in
    sym (take_all k l (omega arith)) ∙ filled ∙ ap (list_of h) e

-- A list of zeros has zeros everywhere.
pub all-zero : (n k : ℕ) → get_or {A = ℕ} (replicate n 0) k 0 ≡ 0
all-zero zero k = refl
all-zero (suc n) zero = refl
all-zero (suc n) (suc k) = all-zero n k
