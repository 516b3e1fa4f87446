-- Laws of the least sum of two rows.
use mathlib.Core.Path.{◌≡◌, refl, ap, ap₂, ◌∙◌}
use mathlib.Core.List.{List}
use Prim.Native.Nat.{ℕ, zero, suc, ◌+◌, ◌-◌, ◌%◌, ◌≤◌, ◌<◌, min}
use native.Mathlib.Nat.{le_antisymm, mod-le, mod-eq_of_lt}
use native.Mathlib.Decide.{dec_le}
use native.Mathlib.Numerals.{add-one, towards_suc}
use native.Mathlib.Omega.{arith}
use lib.ListN.{length, get_or, take, drop, length-drop}
use lib.Seq.{take_all, get_or-drop}
use Rattle.numbers.specs.LeastSum.{top, sum_at, least_sum, four_sums, least_sum_from, least_with}
use Rattle.calculus.specs.Numbers.Least.{least, least_of}
use Rattle.calculus.proofs.Numbers.Least.{least_below, least_above}

pub min_assoc : (a b c : ℕ) → min (min a b) c ≡ min a (min b c)
min_assoc a b c = omega arith

-- One place more.
pub least_sum_more : (a b : List ℕ) (i : ℕ) → min (least_sum a b i) (sum_at a b i) ≡ least_sum a b (i + 1)
unfolding least_sum
least_sum_more a b i = rw add-one

-- Four places more.
pub least_sum_four : (a b : List ℕ) (i : ℕ) → min (least_sum a b i) (four_sums a b i) ≡ least_sum a b (i + 4)
unfolding least_sum four_sums
least_sum_four a b i = simp (towards_suc, min_assoc)

-- No place, no sum.
pub least_sum_none : (a b : List ℕ) (n : ℕ) → n ≡ 0 → least_sum a b n ≡ top
unfolding least_sum
least_sum_none a b n e = rw e

least_sum_below : (a b : List ℕ) (n i : ℕ) → i < n → least_sum a b n ≤ get_or a i 0 + get_or b i 0
unfolding least_sum sum_at
least_sum_below a b zero i p = absurd (omega arith)
least_sum_below a b (suc n) i p =
    elim (dec_le (suc i) n) [
      | yes q ↦ omega (arith, least_sum_below a b n i q)
      | no q ↦ let e : i ≡ n = omega arith in rw e (omega (arith, mod-le (get_or a n 0 + get_or b n 0) 0x1_0000_0000_0000_0000))
    ]

least_sum_above : (a b : List ℕ) (n z : ℕ) → z ≤ top → ((i : ℕ) → i < n → (z ≤ get_or a i 0 + get_or b i 0) × (get_or a i 0 + get_or b i 0 ≤ top)) → z ≤ least_sum a b n
unfolding least_sum sum_at
least_sum_above a b zero z t p = t
least_sum_above a b (suc n) z t p =
    let (low, high) = p n (omega arith) in
    omega (arith, least_sum_above a b n z t (λ i q. p i (omega arith)), mod-eq_of_lt {n = get_or a n 0 + get_or b n 0} {m = 0x1_0000_0000_0000_0000} (omega arith))

module _ (a b : List ℕ) (p q count : ℕ) where
  -- Where both rows have the places and no sum leaves 64 bits, the least sum is the least of h(k), k from 1 on,
  -- whatever h is as long as h(k) is the sum at place k-1.
  pub least_sum_from-least : (h : ℕ → ℕ) → 1 ≤ count → p + count ≤ length a → q + count ≤ length b
      → ((i : ℕ) → i < count → get_or a (p + i) 0 + get_or b (q + i) 0 ≡ h (suc i)) → ((i : ℕ) → i < count → h (suc i) ≤ top) → least_sum_from a p b q count ≡ least 1 count h
  unfolding least_sum_from
  least_sum_from-least h pos fits fits-too same small =
      let all : min count (min (length a - p) (length b - q)) ≡ count = omega arith in
      rw all (le_antisymm
      (least_above 1 count h (least_sum (drop p a) (drop q b) count) pos
      (λ k k1 kc.
      let e : suc (k - 1) ≡ k = omega arith in
      omega (arith, least_sum_below (drop p a) (drop q b) count (k - 1) (omega arith), get_or-drop p a (k - 1) 0, get_or-drop q b (k - 1) 0, same (k - 1) (omega arith), ap h e)))
      (least_sum_above (drop p a) (drop q b) count _ (omega (arith, least_below 1 count h 1 (omega arith) pos, small 0 (omega arith)))
      (λ i ic. (
        omega (arith, least_below 1 count h (suc i) (omega arith) ic, get_or-drop p a i 0, get_or-drop q b i 0, same i ic),
        omega (arith, get_or-drop p a i 0, get_or-drop q b i 0, same i ic, small i ic),
      ))))

pub drop_whole : (n : ℕ) (l : List ℕ) → take (length l - n) (drop n l) ≡ drop n l
drop_whole n l = take_all (length l - n) (drop n l) (omega (arith, length-drop n l))

-- The least sum of two parts that run to their rows' ends.
pub least_sum_from_parts : (a b : List ℕ) (p q count : ℕ)
    → least_sum (take (length a - p) (drop p a)) (take (length b - q) (drop q b)) (min count (min (length (take (length a - p) (drop p a))) (length (take (length b - q) (drop q b))))) ≡ least_sum_from a p b q count
unfolding least_sum_from
least_sum_from_parts a b p q count = rw (drop_whole p a, drop_whole q b, length-drop p a, length-drop q b)

-- Rows that agree at the places have the same least sum.
pub least_sum_cong : (a c b : List ℕ) (n : ℕ) → ((i : ℕ) → i < n → get_or a i 0 ≡ get_or c i 0) → least_sum a b n ≡ least_sum c b n
unfolding least_sum sum_at
least_sum_cong a c b zero same = refl
least_sum_cong a c b (suc n) same =
    ap₂ min (least_sum_cong a c b n (λ i p. same i (omega arith))) (ap (λ (x : ℕ). (x + get_or b n 0) % 0x1_0000_0000_0000_0000) (same n (omega arith)))

-- Rows that agree at the places that are summed have the same least sum.
pub least_sum_from_cong : (a c b : List ℕ) (q count : ℕ) → length a ≡ length c → ((i : ℕ) → i < count → get_or a i 0 ≡ get_or c i 0)
    → least_sum_from a 0 b q count ≡ least_sum_from c 0 b q count
unfolding least_sum_from
least_sum_from_cong a c b q count long same =
    ap (λ (n : ℕ). least_sum a (drop q b) (min count (min (n - 0) (length b - q)))) long
    ∙ least_sum_cong a c (drop q b) _ (λ i p. same i (omega arith))

module _ (first : ℕ) (a b : List ℕ) where
  -- One place more.
  pub least_with_more : (i : ℕ) → min (least_with first a b i) (get_or a i 0 + get_or b i 0) ≡ least_with first a b (i + 1)
  unfolding least_with
  least_with_more i = rw add-one

  pub least_with_none : least_with first a b 0 ≡ first
  unfolding least_with
  least_with_none = refl

  -- With h(1) first and h(k) as the sum at place k-2, the least is that of h(1) to h(n+1).
  least_with_of : (h : ℕ → ℕ) (n : ℕ) → first ≡ h 1 → ((i : ℕ) → i < n → get_or a i 0 + get_or b i 0 ≡ h (1 + suc i)) → least_with first a b n ≡ least_of 1 n h
  unfolding least_with least_of
  least_with_of h zero e same = e
  least_with_of h (suc n) e same = ap₂ min (least_with_of h n e (λ i p. same i (omega arith))) (same n (omega arith))

  pub least_with-least : (h : ℕ → ℕ) (n : ℕ) → first ≡ h 1 → ((i : ℕ) → i < n → get_or a i 0 + get_or b i 0 ≡ h (1 + suc i)) → least_with first a b n ≡ least 1 (suc n) h
  unfolding least
  least_with-least h n e same = let count : suc n - 1 ≡ n = omega arith in rw count (least_with_of h n e same)

  -- A number that is at most the first may as well be taken last.
  pub least_with-last : (last n : ℕ) → last ≤ first → min (least_with first a b n) last ≡ least_with last a b n
  unfolding least_with
  least_with-last last zero p = omega arith
  least_with-last last (suc n) p = omega (arith, least_with-last last n p)
