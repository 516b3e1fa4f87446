-- Functions that do not fall, and those that rise, from one number to the next.
use mathlib.Core.Path.{◌≡◌}
use Prim.Native.Nat.{ℕ, zero, suc, ◌+◌, ◌-◌, ◌≤◌, ◌<◌}
use native.Mathlib.Decide.{dec_le}
use native.Mathlib.Omega.{arith}

-- Totals that do not fall from one slot to the next do not fall from any slot to a later one.
pub rising : (h : ℕ → ℕ) (T : ℕ) → ((t : ℕ) → t < T → h t ≤ h (suc t)) → (i j : ℕ) → i ≤ j → j ≤ T → h i ≤ h j
rising h T step i zero p r = let e : i ≡ 0 = omega arith in rw e (omega arith)
rising h T step i (suc j) p r =
    elim (dec_le i j) [
      | yes w ↦ omega (arith, rising h T step i j w (omega arith), step j r)
      | no w ↦ let e : i ≡ suc j = omega arith in rw e (omega arith)
    ]

-- A function that rises on the numbers below n and stays below n leaves each where it is.
module _ (n : ℕ) (g : ℕ → ℕ) (rises : (k m : ℕ) → k < m → m < n → g k < g m) (inside : (k : ℕ) → k < n → g k < n) where
  own_below : (k : ℕ) → k < n → k ≤ g k
  own_below zero p = omega arith
  own_below (suc k) p = omega (arith, own_below k (omega arith), rises k (suc k) (omega arith) p)

  own_above : (j k : ℕ) → k + j < n → g k + j < n
  own_above zero k p = omega (arith, inside k (omega arith))
  own_above (suc j) k p = omega (arith, rises k (suc k) (omega arith) (omega arith), own_above j (suc k) (omega arith))

  pub rising_own : (k : ℕ) → k < n → g k ≡ k
  rising_own k p = omega (arith, own_below k p, own_above (n - 1 - k) k (omega arith))
