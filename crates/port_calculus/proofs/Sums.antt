-- Laws of sums of a function's values.
use mathlib.Core.Path.{◌≡◌, refl, sym, ap, ap₂, ◌∙◌}
use Prim.Native.Nat.{ℕ, zero, suc, ◌+◌, ◌*◌, ◌≤◌, ◌<◌}
use native.Mathlib.Decide.{dec_le, ℕ_discrete}
use native.Mathlib.Nat.{suc-mul}
use native.Mathlib.Numerals.{add-one}
use native.Mathlib.Omega.{arith}
use Rattle.port_calculus.specs.Port.{sum_below}

pub sum_below-zero : (h : ℕ → ℕ) → sum_below h 0 ≡ 0
unfolding sum_below
sum_below-zero h = refl

pub sum_below-suc : (h : ℕ → ℕ) (n : ℕ) → sum_below h (suc n) ≡ sum_below h n + h n
unfolding sum_below
sum_below-suc h n = refl

pub sum_below_cong : (h k : ℕ → ℕ) (n : ℕ) → ((i : ℕ) → i < n → h i ≡ k i) → sum_below h n ≡ sum_below k n
unfolding sum_below
sum_below_cong h k zero same = refl
sum_below_cong h k (suc n) same = ap₂ ◌+◌ (sum_below_cong h k n (λ i p. same i (omega arith))) (same n (omega arith))

-- More numbers, no smaller sum.
pub sum_below_rises : (h : ℕ → ℕ) (m n : ℕ) → m ≤ n → sum_below h m ≤ sum_below h n
unfolding sum_below
sum_below_rises h m zero p = let e : m ≡ 0 = omega arith in rw e (omega arith)
sum_below_rises h m (suc n) p =
    elim (dec_le m n) [
      | yes q ↦ omega (arith, sum_below_rises h m n q)
      | no q ↦ let e : m ≡ suc n = omega arith in rw e (omega arith)
    ]

-- Zeros add nothing.
pub sum_below_stops : (h : ℕ → ℕ) (m n : ℕ) → m ≤ n → ((i : ℕ) → m ≤ i → i < n → h i ≡ 0) → sum_below h n ≡ sum_below h m
unfolding sum_below
sum_below_stops h m zero p none = let e : m ≡ 0 = omega arith in rw e refl
sum_below_stops h m (suc n) p none =
    elim (dec_le m n) [
      | yes q ↦ omega (arith, sum_below_stops h m n q (λ i r s. none i r (omega arith)), none n q (omega arith))
      | no q ↦ let e : m ≡ suc n = omega arith in rw e refl
    ]

pub sum_below_next : (h : ℕ → ℕ) (n : ℕ) → sum_below h (n + 1) ≡ sum_below h n + h n
sum_below_next h n = rw add-one (unfold sum_below in refl)

-- Numbers of at most m.
pub sum_below_most : (h : ℕ → ℕ) (m n : ℕ) → ((i : ℕ) → h i ≤ m) → sum_below h n ≤ n * m
unfolding sum_below
sum_below_most h m zero p = omega arith
sum_below_most h m (suc n) p = omega (arith, sum_below_most h m n p, p n, suc-mul n m)

pub sum_below_add : (h k : ℕ → ℕ) (n : ℕ) → sum_below (λ i. h i + k i) n ≡ sum_below h n + sum_below k n
unfolding sum_below
sum_below_add h k zero = refl
sum_below_add h k (suc n) = omega (arith, sum_below_add h k n)

pub sum_below_mono : (h k : ℕ → ℕ) (n : ℕ) → ((i : ℕ) → i < n → h i ≤ k i) → sum_below h n ≤ sum_below k n
unfolding sum_below
sum_below_mono h k zero p = omega arith
sum_below_mono h k (suc n) p = omega (arith, sum_below_mono h k n (λ i q. p i (omega arith)), p n (omega arith))

pub sum_below_none : (h : ℕ → ℕ) (n : ℕ) → ((i : ℕ) → i < n → h i ≡ 0) → sum_below h n ≡ 0
unfolding sum_below
sum_below_none h zero p = refl
sum_below_none h (suc n) p = omega (arith, sum_below_none h n (λ i q. p i (omega arith)), p n (omega arith))

-- A table's rows add up to what its columns do.
pub sum_below_swap : (f : ℕ → ℕ → ℕ) (m n : ℕ) → sum_below (λ k. sum_below (f k) n) m ≡ sum_below (λ i. sum_below (λ k. f k i) m) n
sum_below_swap f zero n = sum_below-zero (λ k. sum_below (f k) n) ∙ sym (sum_below_none (λ i. sum_below (λ k. f k i) 0) n (λ i p. sum_below-zero (λ k. f k i)))
sum_below_swap f (suc m) n =
    sum_below-suc (λ k. sum_below (f k) n) m
    ∙ ap (λ (x : ℕ). x + sum_below (f m) n) (sum_below_swap f m n)
    ∙ sym (sum_below_add (λ i. sum_below (λ k. f k i) m) (f m) n)
    ∙ sum_below_cong _ _ n (λ i p. sym (sum_below-suc (λ k. f k i) m))

-- One number among zeros.
pub sum_below_one : (h : ℕ → ℕ) (m n : ℕ) → m < n → ((i : ℕ) → i < n → (i ≡ m → ⊥) → h i ≡ 0) → sum_below h n ≡ h m
sum_below_one h m zero p none = absurd (omega arith)
sum_below_one h m (suc n) p none =
    elim (ℕ_discrete n m) [
      | yes e ↦ omega (arith, sum_below-suc h n, ap h e, sum_below_none h n (λ i q. none i (omega arith) (λ r. omega arith)))
      | no r ↦ omega (arith, sum_below-suc h n, sum_below_one h m n (omega arith) (λ i q. none i (omega arith)), none n (omega arith) r)
    ]
