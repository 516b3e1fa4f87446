-- Laws of traces and of what a total counts slot by slot.
use mathlib.Core.Path.{◌≡◌, refl, sym, ap, ap₂}
use mathlib.Core.List.{List}
use Prim.Native.Nat.{ℕ, zero, suc, ◌+◌, ◌-◌, ◌≤◌, ◌<◌}
use native.Mathlib.Omega.{arith}
use lib.ListN.{length, get_or}
use Rattle.calculus.specs.Regulators.Clipper.{arrived}
use Rattle.calculus.specs.Regulators.Trace.{arrivals, slot_counts, sum_to}
use Rattle.calculus.proofs.Numbers.Lists.{length-list_of, list_of_at, list_of_cong}

pub length-slot_counts : (total : ℕ → ℕ) (T : ℕ) → length (slot_counts total T) ≡ T
unfolding slot_counts
length-slot_counts total T = length-list_of (λ t. total (suc t) - total t) T

-- The count of slot t+1.
pub slot_counts_at : (total : ℕ → ℕ) (T t : ℕ) → t < T → get_or (slot_counts total T) t 0 ≡ total (suc t) - total t
unfolding slot_counts
slot_counts_at total T t p = list_of_at (λ t. total (suc t) - total t) T t p

-- The counts of slots 1 to t add up to the total, which starts at 0 and does not fall.
pub slot_counts-sum : (total : ℕ → ℕ) (T : ℕ) → total 0 ≡ 0 → ((i j : ℕ) → i ≤ j → total i ≤ total j) → (t : ℕ) → t ≤ T → sum_to (slot_counts total T) t ≡ total t
unfolding sum_to
slot_counts-sum total T starts rises zero p = sym starts
slot_counts-sum total T starts rises (suc t) p =
    omega (arith, slot_counts-sum total T starts rises t (omega arith), slot_counts_at total T t p, rises t (suc t) (omega arith))

-- What arrived by slot t is the sum of the trace's first t numbers.
pub arrived-sum : (trace : List ℕ) (t : ℕ) → arrived (arrivals trace) t ≡ sum_to trace t
unfolding arrived arrivals sum_to
arrived-sum trace zero = refl
arrived-sum trace (suc t) = ap (λ (n : ℕ). n + get_or trace t 0) (arrived-sum trace t)

-- Counts up to slot T are those of equal totals.
pub slot_counts_cong : (total other : ℕ → ℕ) (T : ℕ) → ((t : ℕ) → t ≤ T → total t ≡ other t) → slot_counts total T ≡ slot_counts other T
unfolding slot_counts
slot_counts_cong total other T same = list_of_cong _ _ T (λ t p. ap₂ ◌-◌ (same (suc t) p) (same t (omega arith)))
