-- What may still depart, and one slot worked from it: theorem 5.1 (document 000) slot by slot, for any envelope.
use Rattle.std.specs.Prelude.{ℕ, ◌+◌, min}
use Rattle.calculus.specs.Numbers.Least.{least}
use Rattle.calculus.specs.Numbers.Limit.{Limit, map_limit, cut}

-- W(t,r): the most that may have departed by slot r, however much is admitted after slot t. It is the least of X(s) + F(s,r) for
-- s from 0 to t.
unfoldable pub ahead : (ℕ → ℕ) → (ℕ → ℕ → ℕ) → ℕ → ℕ → ℕ
ahead X F t r = least 0 t (λ s. X s + F s r)

-- An admitted total, cut down to what the buffer holds besides y, the total that departed before the slot (document 02, request 2.9).
abbrev pub within_buffer : ℕ → Limit → ℕ → ℕ
within_buffer y q total = cut total (map_limit (λ b. y + b) q)

-- The admitted total after the next slot, where x was admitted and y departed so far, n arrive, and w(k) is the most that may have
-- departed by k slots after the next: the least of x + n, w(d) and y + q; a limit that is none drops out.
abbrev pub ahead_admitted : (ℕ → ℕ) → ℕ → Limit → Limit → ℕ → ℕ → ℕ
ahead_admitted w y d q x n = within_buffer y q (cut (x + n) (map_limit w d))

-- The departed total after the next slot, x being admitted by then: the smaller of x and w(0).
abbrev pub ahead_departed : (ℕ → ℕ) → ℕ → ℕ
ahead_departed w x = min x (w 0)
