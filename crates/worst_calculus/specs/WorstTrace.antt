-- The trace that loses most (document 02, request 2.13): n slots, at most p in each and at most N in all.
use Rattle.std.specs.Prelude.{◌≡◌, List, ℕ, ◌-◌, ◌*◌, ◌≤◌, ◌<◌, min, length, get_or}
use Rattle.calculus.specs.Numbers.Limit.{Limit}
use Rattle.calculus.specs.Numbers.Lists.{list_of}
use Rattle.calculus.specs.Regulators.Trace.{sum_to}
use Rattle.calculus.specs.Regulators.Rows.{lost_by}

-- a trace of n slots within the limits
pub record WithinLimits (n p N : ℕ) (trace : List ℕ) : Type 0 where
  pub long : length trace ≡ n
  pub each : (k : ℕ) → k < n → get_or trace k 0 ≤ p
  pub all : sum_to trace n ≤ N

-- It has the most in slot 1, then in slot 2, and so on: no less than the other in the first slot in which they differ.
unfoldable pub MostFirst : List ℕ → List ℕ → Type 0
MostFirst trace other = (k : ℕ) → ((j : ℕ) → j < k → get_or trace j 0 ≡ get_or other j 0) → get_or other k 0 ≤ get_or trace k 0

-- The trace asked for: within the limits, the regulator loses the greatest total by slot n, and among equals it has the most in
-- slot 1, then in slot 2, and so on.
pub record LosesMost (table : List ℕ) (d q : Limit) (n p N : ℕ) (trace : List ℕ) : Type 0 where
  pub within : WithinLimits n p N trace
  pub most : (other : List ℕ) → WithinLimits n p N other → lost_by table d q other n ≤ lost_by table d q trace n
  pub first : (other : List ℕ) → WithinLimits n p N other → lost_by table d q other n ≡ lost_by table d q trace n → MostFirst trace other

-- p in each slot until N is used up, the remainder, then 0
unfoldable pub worst_trace : ℕ → ℕ → ℕ → List ℕ
worst_trace n p N = list_of (λ k. min p (N - p * k)) n

-- its loss by slot n
unfoldable pub worst_loss : List ℕ → Limit → Limit → ℕ → ℕ → ℕ → ℕ
worst_loss table d q n p N = lost_by table d q (worst_trace n p N) n
