-- The closure of an envelope's table (document 01, "The envelope").
-- A table gives a number for each window; only those at the windows 0 to L count.
use Rattle.std.specs.Prelude.{◌≡◌, ℕ, zero, suc, ◌+◌, ◌-◌, ◌≤◌, min, List, [], ◌∷◌}
use Rattle.calculus.specs.Numbers.Least.{least}
use Rattle.calculus.specs.Numbers.Course.{Rule, course}

-- f(0) is 0, and f(n) is the least of table(k) + f(n-k) over the windows k from 1 to L that are not above n.
unfoldable pub closing : ℕ → (ℕ → ℕ) → Rule
closing L table f zero = 0
closing L table f (suc n) = least 1 (min L (suc n)) (λ k. table k + f (suc n - k))

-- f, for a table of windows 0 to L
unfoldable pub closure : ℕ → (ℕ → ℕ) → ℕ → ℕ
closure L table = course (closing L table)

-- the sum of the table's entries at some windows
unfoldable pub cost : (ℕ → ℕ) → List ℕ → ℕ
cost table [] = 0
cost table (k ∷ ks) = table k + cost table ks

-- windows of 1 to L slots that add up to n
pub data Composition (L : ℕ) : ℕ → List ℕ → Type 0 where
  empty : Composition L 0 []
  piece : {n : ℕ} {ks : List ℕ} (k : ℕ) → 1 ≤ k → k ≤ L → Composition L n ks → Composition L (k + n) (k ∷ ks)

-- a table from an accepted list: windows 1 and more, 0 at window 0, and no entry below the one before
pub record Table (L : ℕ) (table : ℕ → ℕ) : Type 0 where
  pub nonempty : 1 ≤ L
  pub starts : table 0 ≡ 0
  pub rises : (i j : ℕ) → i ≤ j → j ≤ L → table i ≤ table j

-- what document 01 asks of a closure: 0 at window 0, nowhere above the table, and subadditive
pub record Closed (L : ℕ) (table f : ℕ → ℕ) : Type 0 where
  pub zero_at_zero : f 0 ≡ 0
  pub under_table : (k : ℕ) → k ≤ L → f k ≤ table k
  pub subadditive : (i j : ℕ) → f (i + j) ≤ f i + f j

-- totals for slots 0 to T that keep f over every window
unfoldable pub KeepsWindows : (ℕ → ℕ) → ℕ → (ℕ → ℕ) → Type 0
KeepsWindows f T v = (s t : ℕ) → s ≤ t → t ≤ T → v t ≤ v s + f (t - s)

-- totals for slots 0 to T that keep the table over windows of 1 to L
unfoldable pub KeepsTable : ℕ → (ℕ → ℕ) → ℕ → (ℕ → ℕ) → Type 0
KeepsTable L table T v = (s k : ℕ) → 1 ≤ k → k ≤ L → s + k ≤ T → v (s + k) ≤ v s + table k
