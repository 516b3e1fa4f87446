-- The fill, read in two ways (document 02, 2.1): the order form's at a slot's end, the bench's before the slot's departures,
-- and the greatest of each.
use Rattle.std.specs.Prelude.{ℕ, zero, suc, ◌-◌, max}
use Rattle.calculus.specs.Numbers.Limit.{Limit}
use Rattle.calculus.specs.Regulators.Clipper.{admitted}
use Rattle.calculus.specs.Regulators.Regulator.{departed}

-- the order form's: X(t) - Y(t)
unfoldable pub form_fill_at : (ℕ → ℕ → ℕ) → Limit → Limit → (ℕ → ℕ) → ℕ → ℕ
form_fill_at F d q a t = admitted F d q a t - departed F d q a t

-- the bench's: X(t) - Y(t-1)
unfoldable pub bench_fill_at : (ℕ → ℕ → ℕ) → Limit → Limit → (ℕ → ℕ) → ℕ → ℕ
bench_fill_at F d q a t = admitted F d q a t - departed F d q a (t - 1)

-- the greatest of h(1) to h(T), 0 where T is 0
unfoldable pub greatest : (ℕ → ℕ) → ℕ → ℕ
greatest h zero = 0
greatest h (suc t) = max (greatest h t) (h (suc t))
