-- Laws of the least over a range: it is below each of its numbers, above whatever is below each, and one of them.
use mathlib.Core.Path.{◌≡◌, refl}
use Prim.Native.Nat.{ℕ, zero, suc, ◌+◌, ◌-◌, ◌≤◌, min}
use native.Mathlib.Nat.{le_antisymm}
use native.Mathlib.Decide.{dec_le}
use native.Mathlib.Omega.{arith}
use Rattle.calculus.specs.Numbers.Least.{least, least_of}

least_of_below : (a n : ℕ) (h : ℕ → ℕ) (k : ℕ) → a ≤ k → k ≤ a + n → least_of a n h ≤ h k
unfolding least_of
least_of_below a zero h k p q =
    let e : k ≡ a = omega arith in
    rw e (omega arith)
least_of_below a (suc n) h k p q =
    elim (dec_le k (a + n)) [
      | yes r ↦ omega (arith, least_of_below a n h k p r)
      | no r ↦ let e : k ≡ a + suc n = omega arith in rw e (omega arith)
    ]

least_of_above : (a n : ℕ) (h : ℕ → ℕ) (z : ℕ) → ((k : ℕ) → a ≤ k → k ≤ a + n → z ≤ h k) → z ≤ least_of a n h
unfolding least_of
least_of_above a zero h z p = p a (omega arith) (omega arith)
least_of_above a (suc n) h z p =
    omega (arith, least_of_above a n h z (λ k r s. p k r (omega arith)), p (a + suc n) (omega arith) (omega arith))

least_of_attained : (a n : ℕ) (h : ℕ → ℕ) → (k : ℕ) × (a ≤ k) × (k ≤ a + n) × (least_of a n h ≡ h k)
unfolding least_of
least_of_attained a zero h = (a, omega arith, omega arith, refl)
least_of_attained a (suc n) h =
    let (k, p, q, e) = least_of_attained a n h in
    elim (dec_le (least_of a n h) (h (a + suc n))) [
      | yes r ↦ (k, p, omega arith, omega arith)
      | no r ↦ (a + suc n, omega arith, omega arith, omega arith)
    ]

-- The least is at most each of its numbers.
pub least_below : (a b : ℕ) (h : ℕ → ℕ) (k : ℕ) → a ≤ k → k ≤ b → least a b h ≤ h k
unfolding least
least_below a b h k p q = least_of_below a (b - a) h k p (omega arith)

-- What is at most each of the numbers is at most the least.
pub least_above : (a b : ℕ) (h : ℕ → ℕ) (z : ℕ) → a ≤ b → ((k : ℕ) → a ≤ k → k ≤ b → z ≤ h k) → z ≤ least a b h
unfolding least
least_above a b h z ab p = least_of_above a (b - a) h z (λ k r s. p k r (omega arith))

-- The least is one of its numbers.
pub least_attained : (a b : ℕ) (h : ℕ → ℕ) → a ≤ b → (k : ℕ) × (a ≤ k) × (k ≤ b) × (least a b h ≡ h k)
unfolding least
least_attained a b h ab =
    let (k, p, q, e) = least_of_attained a (b - a) h in
    (k, p, omega arith, e)

-- Numbers that are each at most the other's have a least at most the other's.
pub least_mono : (a b : ℕ) (h i : ℕ → ℕ) → a ≤ b → ((k : ℕ) → a ≤ k → k ≤ b → h k ≤ i k) → least a b h ≤ least a b i
least_mono a b h i ab p =
    least_above a b i (least a b h) ab (λ k r s. omega (arith, least_below a b h k r s, p k r s))

-- Equal numbers have equal leasts.
pub least_cong : (a b : ℕ) (h i : ℕ → ℕ) → a ≤ b → ((k : ℕ) → a ≤ k → k ≤ b → h k ≡ i k) → least a b h ≡ least a b i
least_cong a b h i ab p =
    le_antisymm
    (least_mono a b h i ab (λ k r s. omega (arith, p k r s)))
    (least_mono a b i h ab (λ k r s. omega (arith, p k r s)))

-- One number more.
pub least-suc : (a b : ℕ) (h : ℕ → ℕ) → a ≤ b → least a (suc b) h ≡ min (least a b h) (h (suc b))
least-suc a b h ab =
    le_antisymm
    (omega (arith, least_above a b h (least a (suc b) h) ab (λ k r s. least_below a (suc b) h k r (omega arith)), least_below a (suc b) h (suc b) (omega arith) (omega arith)))
    (least_above a (suc b) h (min (least a b h) (h (suc b))) (omega arith)
    (λ k r s.
    elim (dec_le k b) [
      | yes t ↦ omega (arith, least_below a b h k r t)
      | no t ↦ let e : k ≡ suc b = omega arith in rw e (omega arith)
    ]))

-- A number added to each is added to the least.
pub least_add : (a b : ℕ) (h : ℕ → ℕ) (c : ℕ) → a ≤ b → least a b (λ k. h k + c) ≡ least a b h + c
least_add a b h c ab =
    let (k, p, q, e) = least_attained a b h ab in
    le_antisymm
    (omega (arith, least_below a b (λ j. h j + c) k p q))
    (least_above a b (λ j. h j + c) (least a b h + c) ab (λ j r s. omega (arith, least_below a b h j r s)))
