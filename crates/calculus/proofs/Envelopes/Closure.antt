-- Laws of the closure, for every L: all that document 01 says of it in "The envelope".
use mathlib.Core.Path.{◌≡◌, refl, sym, ap, ◌∙◌, subst}
use mathlib.Core.List.{List, [], ◌∷◌}
use Prim.Native.Nat.{ℕ, zero, suc, ◌+◌, ◌-◌, ◌*◌, ◌≤◌, ◌<◌, min}
use native.Mathlib.Nat.{suc-mul}
use native.Mathlib.Decide.{dec_le}
use native.Mathlib.Omega.{arith}
use Rattle.calculus.specs.Numbers.Least.{least}
use Rattle.calculus.specs.Numbers.Course.{course}
use Rattle.calculus.specs.Envelopes.Closure.{closing, closure, cost, Composition, empty, piece, Table, Closed, KeepsWindows, KeepsTable}
use Rattle.calculus.proofs.Numbers.Least.{least_below, least_attained, least_cong}
use Rattle.calculus.proofs.Envelopes.Closing.{closing_looks_back}
use Rattle.calculus.proofs.Numbers.Course.{strongly, course-keeps, course_only}

module _ (L : ℕ) (table : ℕ → ℕ) (pos : 1 ≤ L) where
  -- f(0) is 0.
  pub closure-zero : closure L table 0 ≡ 0
  unfolding closure course closing
  closure-zero = refl

  -- f(n) is the least of table(k) + f(n-k) over the windows k from 1 to L that are not above n.
  pub closure-rule : (n : ℕ) → closure L table (suc n) ≡ least 1 (min L (suc n)) (λ k. table k + closure L table (suc n - k))
  unfolding closure closing
  closure-rule n = course-keeps (closing L table) (closing_looks_back L table pos) (suc n)

  -- Any window from 1 to L that is not above n leaves at least f(n).
  pub closure_within : (n k : ℕ) → 1 ≤ k → k ≤ L → k ≤ n → closure L table n ≤ table k + closure L table (n - k)
  closure_within zero k p q r = absurd (omega arith)
  closure_within (suc n) k p q r =
      omega (arith, closure-rule n, least_below 1 (min L (suc n)) (λ i. table i + closure L table (suc n - i)) k p (omega arith))

  -- Some window attains f.
  pub closure_attained : (n : ℕ) → (k : ℕ) × (1 ≤ k) × (k ≤ L) × (k ≤ suc n) × (closure L table (suc n) ≡ table k + closure L table (suc n - k))
  closure_attained n =
      let (k, p, q, e) = least_attained 1 (min L (suc n)) (λ k. table k + closure L table (suc n - k)) (omega arith) in
      (k, p, omega arith, omega arith, closure-rule n ∙ e)

  -- f(n) is at most n times any bound on the entry at window 1.
  pub closure-bound : (c : ℕ) → table 1 ≤ c → (n : ℕ) → closure L table n ≤ n * c
  closure-bound c p zero = omega (arith, closure-zero)
  closure-bound c p (suc n) =
      let e : suc n - 1 ≡ n = omega arith in
      omega (arith, closure_within (suc n) 1 (omega arith) pos (omega arith), ap (closure L table) e, closure-bound c p n, suc-mul n c)

module _ (L : ℕ) (table : ℕ → ℕ) (given : Table L table) where
  -- A first piece of any window from 1 to L leaves at least f, also where it is longer than what is wanted.
  pub closure-piece : (n k : ℕ) → 1 ≤ k → k ≤ L → closure L table n ≤ table k + closure L table (n - k)
  closure-piece n k p q =
      elim (dec_le k n) [
        | yes r ↦ closure_within L table given.nonempty n k p q r
        | no r ↦ short n (omega arith)
      ]
    where
      short : (n : ℕ) → n < k → closure L table n ≤ table k + closure L table (n - k)
      short zero r = omega (arith, closure-zero L table given.nonempty)
      short (suc n) r =
          let e : suc n - suc n ≡ 0 = omega arith in
          omega (
            arith,
            closure_within L table given.nonempty (suc n) (suc n) (omega arith) (omega arith) (omega arith),
            ap (closure L table) e,
            closure-zero L table given.nonempty,
            given.rises (suc n) k (omega arith) q,
          )

  -- f is nowhere above the table.
  pub closure_under : (k : ℕ) → k ≤ L → closure L table k ≤ table k
  closure_under zero p = omega (arith, closure-zero L table given.nonempty)
  closure_under (suc k) p =
      let e : suc k - suc k ≡ 0 = omega arith in
      omega (arith, closure-piece (suc k) (suc k) (omega arith) p, ap (closure L table) e, closure-zero L table given.nonempty)

  -- f does not fall.
  pub closure_rises : (i j : ℕ) → i ≤ j → closure L table i ≤ closure L table j
  closure_rises i j = strongly (λ j. (i : ℕ) → i ≤ j → closure L table i ≤ closure L table j) step j i
    where
      step : (j : ℕ) → ((k : ℕ) → k < j → (i : ℕ) → i ≤ k → closure L table i ≤ closure L table k) → (i : ℕ) → i ≤ j → closure L table i ≤ closure L table j
      step zero ih i p = let e : i ≡ 0 = omega arith in rw e (omega arith)
      step (suc j) ih i p =
          let (k, p1, p2, p3, e) = closure_attained L table given.nonempty j in
          omega (arith, closure-piece i k p1 p2, ih (suc j - k) (omega arith) (i - k) (omega arith))

  -- f is subadditive.
  pub closure_adds : (i j : ℕ) → closure L table (i + j) ≤ closure L table i + closure L table j
  closure_adds i j = strongly (λ i. closure L table (i + j) ≤ closure L table i + closure L table j) step i
    where
      step : (i : ℕ) → ((k : ℕ) → k < i → closure L table (k + j) ≤ closure L table k + closure L table j) → closure L table (i + j) ≤ closure L table i + closure L table j
      step zero ih = let e : 0 + j ≡ j = omega arith in rw e (omega arith)
      step (suc i) ih =
          let (k, p1, p2, p3, e) = closure_attained L table given.nonempty i in
          let same : suc i + j - k ≡ suc i - k + j = omega arith in
          omega (arith, closure-piece (suc i + j) k p1 p2, ap (closure L table) same, ih (suc i - k) (omega arith))

  -- f is one of the functions that document 01 asks for.
  pub closure_closed : Closed L table (closure L table)
  closure_closed = record { zero_at_zero = closure-zero L table given.nonempty; under_table = closure_under; subadditive = closure_adds }

  -- Totals that keep the table over windows of 1 to L keep f over all windows.
  pub table-kept-keeps-closure : (T : ℕ) (v : ℕ → ℕ) → KeepsTable L table T v → KeepsWindows (closure L table) T v
  unfolding KeepsTable KeepsWindows
  table-kept-keeps-closure T v keeps s t st t_t =
      let e : s + (t - s) ≡ t = omega arith in
      omega (arith, strongly Kept step (t - s) s (omega arith), ap v e)
    where
      Kept : ℕ → Type 0
      Kept n = (s : ℕ) → s + n ≤ T → v (s + n) ≤ v s + closure L table n

      step : (n : ℕ) → ((k : ℕ) → k < n → Kept k) → Kept n
      step zero ih s b = let e : s + 0 ≡ s = omega arith in omega (arith, ap v e)
      step (suc n) ih s b =
          let (k, p1, p2, p3, e) = closure_attained L table given.nonempty n in
          let same : s + k + (suc n - k) ≡ s + suc n = omega arith in
          omega (arith, keeps s k p1 p2 (omega arith), ih (suc n - k) (omega arith) (s + k) (omega arith), ap v same)

  -- Totals that keep f over all windows keep the table over windows of 1 to L.
  pub closure-kept-keeps-table : (T : ℕ) (v : ℕ → ℕ) → KeepsWindows (closure L table) T v → KeepsTable L table T v
  unfolding KeepsTable KeepsWindows
  closure-kept-keeps-table T v keeps s k p q b =
      let e : s + k - s ≡ k = omega arith in
      omega (arith, keeps s (s + k) (omega arith) b, ap (closure L table) e, closure_under k q)

  -- f is the largest: no function that is 0 at window 0, nowhere above the table, and subadditive is anywhere above f.
  pub closure_largest : (g : ℕ → ℕ) → Closed L table g → (n : ℕ) → g n ≤ closure L table n
  unfolding KeepsTable KeepsWindows
  closure_largest g closed n =
      let e : n - 0 ≡ n = omega arith in
      omega (arith, ap (closure L table) e, table-kept-keeps-closure n g (λ s k p q b. omega (arith, closed.subadditive s k, closed.under_table k q)) 0 n (omega arith) (omega arith), closed.zero_at_zero)

  -- No sum of entries whose windows add up to n is below f(n).
  pub closure_cheapest : {n : ℕ} {ks : List ℕ} → Composition L n ks → closure L table n ≤ cost table ks
  unfolding cost
  closure_cheapest empty = omega (arith, closure-zero L table given.nonempty)
  closure_cheapest (piece {n = n} k p q rest) =
      let e : k + n - k ≡ n = omega arith in
      omega (arith, closure-piece (k + n) k p q, ap (closure L table) e, closure_cheapest rest)

  -- Some sum of entries whose windows add up to n is f(n).
  pub closure_composed : (n : ℕ) → (ks : List ℕ) × (Composition L n ks) × (closure L table n ≡ cost table ks)
  closure_composed = strongly Composed step
    where
      Composed : ℕ → Type 0
      Composed n = (ks : List ℕ) × (Composition L n ks) × (closure L table n ≡ cost table ks)

      unfold-cost : (k : ℕ) (ks : List ℕ) → cost table (k ∷ ks) ≡ table k + cost table ks
      unfold-cost k ks = unfold cost in refl

      step : (n : ℕ) → ((k : ℕ) → k < n → Composed k) → Composed n
      step zero ih = ([], empty, unfold cost in closure-zero L table given.nonempty)
      step (suc n) ih =
          let (k, p1, p2, p3, e) = closure_attained L table given.nonempty n in
          let (ks, made, same) = ih (suc n - k) (omega arith) in
          let whole : k + (suc n - k) ≡ suc n = omega arith in
          (k ∷ ks, subst (λ (m : ℕ). Composition L m (k ∷ ks)) whole (piece k p1 p2 made), omega (arith, unfold-cost k ks))

  -- A cheapest way to make up a window of n has a cut in the last L slots before any place p within it.
  pub closure-cut : (n p : ℕ) → 1 ≤ p → p ≤ n
      → (j : ℕ) × (j < p) × (p ≤ j + L) × (closure L table j + closure L table (n - j) ≤ closure L table n)
  closure-cut = strongly Cut step
    where
      Cut : ℕ → Type 0
      Cut n = (p : ℕ) → 1 ≤ p → p ≤ n → (j : ℕ) × (j < p) × (p ≤ j + L) × (closure L table j + closure L table (n - j) ≤ closure L table n)

      step : (n : ℕ) → ((k : ℕ) → k < n → Cut k) → Cut n
      step zero ih p p1 pn = absurd (omega arith)
      step (suc n) ih p p1 pn =
          let (k, k1, k_l, kn, e) = closure_attained L table given.nonempty n in
          elim (dec_le p k) [
            | yes r ↦ let same : suc n - 0 ≡ suc n = omega arith in
                (0, omega arith, omega arith, omega (arith, closure-zero L table given.nonempty, ap (closure L table) same))
            | no r ↦ let (j, jp, pj, le) = ih (suc n - k) (omega arith) (p - k) (omega arith) (omega arith) in
                let same : suc n - k - j ≡ suc n - (k + j) = omega arith in
                (k + j, omega arith, omega arith, omega (arith, closure_adds k j, closure_under k k_l, ap (closure L table) same))
          ]

closing_cong : (L : ℕ) (table other f : ℕ → ℕ) → 1 ≤ L → ((k : ℕ) → 1 ≤ k → k ≤ L → table k ≡ other k) → (n : ℕ) → closing L table f n ≡ closing L other f n
unfolding closing
closing_cong L table other f pos same zero = refl
closing_cong L table other f pos same (suc n) =
    least_cong 1 (min L (suc n)) _ _ (omega arith) (λ k p q. ap (λ (z : ℕ). z + f (suc n - k)) (same k p (omega arith)))

-- Tables that agree at the windows 1 to L have the same closure.
pub closure_cong : (L : ℕ) (table other : ℕ → ℕ) → 1 ≤ L → ((k : ℕ) → 1 ≤ k → k ≤ L → table k ≡ other k) → (n : ℕ) → closure L table n ≡ closure L other n
unfolding closure
closure_cong L table other pos same n =
    course_only (closing L other) (closing_looks_back L other pos) (closure L table) n
    (λ k p. course-keeps (closing L table) (closing_looks_back L table pos) k ∙ closing_cong L table other (closure L table) pos same k)

-- At window n, windows above n make no difference.
pub closure_ends : (L M : ℕ) (table : ℕ → ℕ) (n : ℕ) → n ≤ L → n ≤ M → closure L table n ≡ closure M table n
closure_ends L M table = strongly (λ n. n ≤ L → n ≤ M → closure L table n ≡ closure M table n) step
  where
    step : (n : ℕ) → ((k : ℕ) → k < n → k ≤ L → k ≤ M → closure L table k ≡ closure M table k) → n ≤ L → n ≤ M → closure L table n ≡ closure M table n
    step zero ih p q = unfold closure course closing in refl
    step (suc n) ih p q =
        let e : min L (suc n) ≡ suc n = omega arith in
        let f : min M (suc n) ≡ suc n = omega arith in
        (rw e at (closure-rule L table (omega arith) n))
        ∙ least_cong 1 (suc n) _ _ (omega arith) (λ k r s. ap (λ (z : ℕ). table k + z) (ih (suc n - k) (omega arith) (omega arith) (omega arith)))
        ∙ sym (rw f at (closure-rule M table (omega arith) n))

-- A closure that is nowhere above another table is nowhere above that table's closure.
pub closure_below : (L : ℕ) (table : ℕ → ℕ) → Table L table → (M : ℕ) (other : ℕ → ℕ) → Table M other
    → ((k : ℕ) → k ≤ M → closure L table k ≤ other k) → (n : ℕ) → closure L table n ≤ closure M other n
closure_below L table given M other fine under =
    closure_largest M other fine (closure L table)
    (record { zero_at_zero = closure-zero L table given.nonempty; under_table = under; subadditive = closure_adds L table given })
