-- All short traces, in order (document 02, request 2.14): every trace of T slots with 0 to 3 arrivals in each.
use Rattle.std.specs.Prelude.{◌≡◌, List, [], ◌∷◌, ◌++◌, ℕ, zero, suc, ◌+◌, ◌*◌, ◌/◌, ◌%◌, ◌^◌, ◌≤◌, ◌<◌, length, get_or}
use Rattle.calculus.specs.Numbers.Lists.{list_of}

-- a trace with 0 to 3 arrivals in each slot
pub data Short : List ℕ → Type 0 where
  none : Short []
  more : {x : ℕ} {xs : List ℕ} → x ≤ 3 → Short xs → Short (x ∷ xs)

-- the dictionary's order: in the first slot where two traces differ the first has fewer
pub data Before : List ℕ → List ℕ → Type 0 where
  fewer : {x y : ℕ} {xs ys : List ℕ} → x < y → Before (x ∷ xs) (y ∷ ys)
  equal : {x : ℕ} {xs ys : List ℕ} → Before xs ys → Before (x ∷ xs) (x ∷ ys)

-- trace k of a list that holds traces of T slots, trace after trace
unfoldable pub listed_trace : ℕ → List ℕ → ℕ → List ℕ
listed_trace T list k = list_of (λ j. get_or list (k * T + j) 0) T

-- The list asked for.
pub record EveryTrace (T : ℕ) (list : List ℕ) : Type 0 where
  -- T × 4-to-the-power-T counts
  pub long : length list ≡ T * 4 ^ T
  -- 0 to 3 arrivals in each slot
  pub short : (k : ℕ) → k < 4 ^ T → Short (listed_trace T list k)
  -- every trace, a single time
  pub every : (trace : List ℕ) → length trace ≡ T → Short trace → (k : ℕ) × (k < 4 ^ T) × (listed_trace T list k ≡ trace)
  pub once : (k m : ℕ) → k < 4 ^ T → m < 4 ^ T → listed_trace T list k ≡ listed_trace T list m → k ≡ m
  -- by dictionary order of the counts
  pub ordered : (k m : ℕ) → k < m → m < 4 ^ T → Before (listed_trace T list k) (listed_trace T list m)

-- Trace k of T slots, by the dictionary: the last slot has k % 4 arrivals, and the slots before it are trace k / 4.
unfoldable pub trace_at : ℕ → ℕ → List ℕ
trace_at zero k = []
trace_at (suc T) k = trace_at T (k / 4) ++ (k % 4 ∷ [])

-- the first n traces of T slots, one after the other
unfoldable pub traces_to : ℕ → ℕ → List ℕ
traces_to T zero = []
traces_to T (suc n) = traces_to T n ++ trace_at T n

-- every trace of T slots
unfoldable pub all_traces : ℕ → List ℕ
all_traces T = traces_to T (4 ^ T)

-- The traces of two slots, written out: both slots empty first, three packets in each last.
pub record TracesSample : Type 0 where
  pub two-slots : all_traces 2
      ≡ 0 ∷ 0 ∷ 0 ∷ 1 ∷ 0 ∷ 2 ∷ 0 ∷ 3 ∷ 1 ∷ 0 ∷ 1 ∷ 1 ∷ 1 ∷ 2 ∷ 1 ∷ 3 ∷ 2 ∷ 0 ∷ 2 ∷ 1 ∷ 2 ∷ 2 ∷ 2 ∷ 3 ∷ 3 ∷ 0 ∷ 3 ∷ 1 ∷ 3 ∷ 2 ∷ 3 ∷ 3 ∷ []
  pub fifth : listed_trace 2 (all_traces 2) 4 ≡ 1 ∷ 0 ∷ []
