-- What the next slot is worked from: the running totals and the last L departed totals, not the entire history.
-- past(k) is the departed total of k slots before the next slot, for k from 1 to L; before slot 0 it is 0.
use Rattle.std.specs.Prelude.{ℕ, ◌+◌}
use Rattle.calculus.specs.Numbers.Least.{least}
use Rattle.calculus.specs.Numbers.Limit.{Limit}
use Rattle.calculus.specs.Regulators.Ahead.{ahead_admitted, ahead_departed}

-- the most that may have departed by `ahead` slots after the next one, however much is admitted from the next slot on
unfoldable pub forecast : ℕ → (ℕ → ℕ) → (ℕ → ℕ) → ℕ → ℕ
forecast L f past ahead = least 1 L (λ k. past k + f (k + ahead))

-- the admitted total after the next slot: x admitted so far, n arriving
unfoldable pub next_admitted : ℕ → (ℕ → ℕ) → Limit → Limit → (ℕ → ℕ) → ℕ → ℕ → ℕ
next_admitted L f d q past x n = ahead_admitted (forecast L f past) (past 1) d q x n

-- the departed total after the next slot, x being admitted by then
unfoldable pub next_departed : ℕ → (ℕ → ℕ) → (ℕ → ℕ) → ℕ → ℕ
next_departed L f past x = ahead_departed (forecast L f past) x
