-- The clipper of theorem 5.1 (document 000) and of document 01, "One slot".
-- Slots are numbered from 1, and a(t) is what arrives in slot t.
use Rattle.std.specs.Prelude.{ℕ, zero, suc, ◌+◌, ◌-◌}
use Rattle.calculus.specs.Numbers.Least.{least}
use Rattle.calculus.specs.Numbers.Course.{Rule, course}
use Rattle.calculus.specs.Numbers.Limit.{Limit, map_limit, smaller, cut}

-- A(t): what arrived in slots 1 to t
unfoldable pub arrived : (ℕ → ℕ) → ℕ → ℕ
arrived a zero = 0
arrived a (suc t) = arrived a t + a (suc t)

-- X(0) is 0, and X(t) is the least of X(t-1) + A(t) - A(t-1) and all X(s) + G(s,t) for s from 0 to t-1.
unfoldable pub clipping : (ℕ → ℕ → Limit) → (ℕ → ℕ) → Rule
clipping G a X zero = 0
clipping G a X (suc t) =
    least 0 t (λ s. cut (X t + (arrived a (suc t) - arrived a t)) (map_limit (λ g. X s + g) (G s (suc t))))

-- what a clipper that keeps the bound G has let in by slot t
unfoldable pub clipped : (ℕ → ℕ → Limit) → (ℕ → ℕ) → ℕ → ℕ
clipped G a = course (clipping G a)

-- what the delay limit and the buffer limit allow over a window of k slots: f(k+d), and f(k-1) + q, since the buffer counts before
-- the last slot's departures (document 02, request 2.9)
unfoldable pub delay_bound : (ℕ → ℕ) → Limit → ℕ → Limit
delay_bound f d k = map_limit (λ n. f (k + n)) d

unfoldable pub buffer_bound : (ℕ → ℕ) → Limit → ℕ → Limit
buffer_bound f q k = map_limit (λ n. f (k - 1) + n) q

-- Document 01's g(k), as request 2.9 has it: the smaller of f(k+d) and f(k-1) + q; a limit that is none drops out.
unfoldable pub clipper_window : (ℕ → ℕ) → Limit → Limit → ℕ → Limit
clipper_window f d q k = smaller (delay_bound f d k) (buffer_bound f q k)

-- G(s,t), for an envelope of pairs of slots: the smaller of F(s,t+d) and F(s,t-1) + q.
unfoldable pub clipper_envelope : (ℕ → ℕ → ℕ) → Limit → Limit → ℕ → ℕ → Limit
clipper_envelope F d q s = clipper_window (F s) d q

-- X(t), for an envelope and the two limits
unfoldable pub admitted : (ℕ → ℕ → ℕ) → Limit → Limit → (ℕ → ℕ) → ℕ → ℕ
admitted F d q a = clipped (clipper_envelope F d q) a
