-- Laws of limits that may be none.
use mathlib.Core.Path.{◌≡◌, refl, ap}
use Prim.Native.Nat.{ℕ, ◌≤◌, min}
use mathlib.Core.Logic.{◌⊎◌, inl, inr}
use native.Mathlib.Decide.{dec_le}
use native.Mathlib.Omega.{arith}
use borrow.Author.Tests.{ne_eqb}
use Rattle.calculus.proofs.Numbers.Distinct.{zero_one}
use Rattle.calculus.specs.Numbers.Limit.{Limit, none, at_most, map_limit, smaller, cut, limit_unless, delay_limit, buffer_limit}

-- 255 slots stand for no delay limit, and the numbers 0 to 64 for themselves.
pub delay_none : delay_limit 255 ≡ none
unfolding delay_limit limit_unless
delay_none = refl

pub delay-number : (d : ℕ) → d ≤ 64 → delay_limit d ≡ at_most d
unfolding delay_limit limit_unless
delay-number d p = rw (ne_eqb d 255 (λ e. omega arith))

-- 4,294,967,295 packets stand for no buffer limit, and the numbers 0 to 1,000,000 for themselves.
pub buffer_none : buffer_limit 4294967295 ≡ none
unfolding buffer_limit limit_unless
buffer_none = refl

pub buffer-number : (q : ℕ) → q ≤ 1000000 → buffer_limit q ≡ at_most q
unfolding buffer_limit limit_unless
buffer-number q p = rw (ne_eqb q 4294967295 (λ e. omega arith))

-- every number that the limit gives is at least x
abbrev pub Within : ℕ → Limit → Type 0
Within x l = (n : ℕ) → l ≡ at_most n → x ≤ n

-- A number cut down is at most what it was.
pub cut_under : (x : ℕ) (l : Limit) → cut x l ≤ x
unfolding cut
cut_under x none = omega arith
cut_under x (at_most n) = omega arith

-- A number cut down keeps the limit.
pub cut_within : (x : ℕ) (l : Limit) → Within (cut x l) l
unfolding cut
cut_within x none n e = absurd (zero_one cc)
cut_within x (at_most m) n e = let z : m ≡ n = cc in omega arith

-- What is at most x and keeps the limit is at most x cut down.
pub cut_above : (x : ℕ) (l : Limit) (z : ℕ) → z ≤ x → Within z l → z ≤ cut x l
unfolding cut
cut_above x none z p q = p
cut_above x (at_most n) z p q = omega (arith, q n refl)

-- A number cut down is what it was or what the limit gives.
pub cut_attained : (x : ℕ) (l : Limit) → (cut x l ≡ x) ⊎ ((n : ℕ) × (l ≡ at_most n) × (cut x l ≡ n))
unfolding cut
cut_attained x none = inl refl
cut_attained x (at_most n) =
    elim (dec_le x n) [
      | yes p ↦ inl (omega arith)
      | no p ↦ inr (n, refl, omega arith)
    ]

-- Cut down to the smaller of two limits is cut down to one and then the other.
pub cut-smaller : (x : ℕ) (l m : Limit) → cut x (smaller l m) ≡ cut (cut x l) m
unfolding cut smaller
cut-smaller x none m = refl
cut-smaller x (at_most k) none = refl
cut-smaller x (at_most k) (at_most j) = omega arith

-- A limit's number after mapping comes from one before.
pub map_limit-from : (h : ℕ → ℕ) (l : Limit) (m : ℕ) → map_limit h l ≡ at_most m → (n : ℕ) × (l ≡ at_most n) × (m ≡ h n)
unfolding map_limit
map_limit-from h none m e = absurd (zero_one cc)
map_limit-from h (at_most n) m e = (n, refl, cc)

-- Maps that agree at the limit's number give the same limit.
pub map_limit_cong : (h i : ℕ → ℕ) (l : Limit) → ((n : ℕ) → l ≡ at_most n → h n ≡ i n) → map_limit h l ≡ map_limit i l
unfolding map_limit
map_limit_cong h i none same = refl
map_limit_cong h i (at_most n) same = ap at_most (same n refl)

-- x keeps a mapped limit where x is at most each h(n).
pub within-map : (h : ℕ → ℕ) (l : Limit) (x : ℕ) → ((n : ℕ) → l ≡ at_most n → x ≤ h n) → Within x (map_limit h l)
within-map h l x p m e =
    let (n, from, same) = map_limit-from h l m e in
    omega (arith, p n from)

-- And the other way round.
pub within_mapped : (h : ℕ → ℕ) (l : Limit) (x n : ℕ) → Within x (map_limit h l) → l ≡ at_most n → x ≤ h n
unfolding map_limit
within_mapped h l x n p e = p (h n) (ap (map_limit h) e)

-- Keeping the smaller of two limits is keeping both.
pub within-smaller : (l m : Limit) (x : ℕ) → Within x l → Within x m → Within x (smaller l m)
unfolding smaller
within-smaller none m x p q k e = q k e
within-smaller (at_most n) none x p q k e = p k e
within-smaller (at_most n) (at_most m) x p q k e =
    let z : min n m ≡ k = cc in
    omega (arith, p n refl, q m refl)

-- Where the smaller of two limits is a number, one of the two is that number.
pub smaller_attained : (l m : Limit) (n : ℕ) → smaller l m ≡ at_most n → (l ≡ at_most n) ⊎ (m ≡ at_most n)
unfolding smaller
smaller_attained none m n e = inr e
smaller_attained (at_most k) none n e = inl e
smaller_attained (at_most k) (at_most j) n e =
    let same : min k j ≡ n = cc in
    elim (dec_le k j) [
      | yes p ↦ inl (ap at_most (omega arith))
      | no p ↦ inr (ap at_most (omega arith))
    ]

pub within_left : (l m : Limit) (x : ℕ) → Within x (smaller l m) → Within x l
unfolding smaller
within_left none m x p k e = absurd (zero_one cc)
within_left (at_most n) none x p k e = p k e
within_left (at_most n) (at_most m) x p k e = let z : n ≡ k = cc in omega (arith, p (min n m) refl)

pub within_right : (l m : Limit) (x : ℕ) → Within x (smaller l m) → Within x m
unfolding smaller
within_right none m x p k e = p k e
within_right (at_most n) none x p k e = absurd (zero_one cc)
within_right (at_most n) (at_most m) x p k e = let z : m ≡ k = cc in omega (arith, p (min n m) refl)
