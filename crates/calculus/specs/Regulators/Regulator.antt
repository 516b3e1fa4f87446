-- The regulator of theorem 5.1 (document 000) and of document 01, "One slot": departures and what is held and dropped.
use Rattle.std.specs.Prelude.{ℕ, ◌+◌, ◌-◌}
use Rattle.calculus.specs.Numbers.Least.{least}
use Rattle.calculus.specs.Numbers.Limit.{Limit}
use Rattle.calculus.specs.Regulators.Clipper.{arrived, admitted}

-- The convolution of the totals X with the envelope F: the least of X(s) + F(s,t) for s from 0 to t.
unfoldable pub convolution : (ℕ → ℕ) → (ℕ → ℕ → ℕ) → ℕ → ℕ
convolution X F t = least 0 t (λ s. X s + F s t)

-- Y(t) is the least of X(s) + F(s,t) for s from 0 to t.
unfoldable pub departed : (ℕ → ℕ → ℕ) → Limit → Limit → (ℕ → ℕ) → ℕ → ℕ
departed F d q a = convolution (admitted F d q a) F

-- Dropped by slot t: arrived less admitted.
unfoldable pub lost : (ℕ → ℕ → ℕ) → Limit → Limit → (ℕ → ℕ) → ℕ → ℕ
lost F d q a t = arrived a t - admitted F d q a t

-- Held after slot t: X(t) - Y(t).
unfoldable pub held : (ℕ → ℕ → ℕ) → Limit → Limit → (ℕ → ℕ) → ℕ → ℕ
held F d q a t = admitted F d q a t - departed F d q a t
