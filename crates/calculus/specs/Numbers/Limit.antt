-- A limit that may be none (document 01, "One slot": the delay limit and the buffer limit).
-- None is no number: a limit that is none drops out.
use Rattle.std.specs.Prelude.{ℕ, min, Bool, true, false, eqb}

pub data Limit : Type 0 where
  none : Limit
  at_most : ℕ → Limit

-- the limit, its number n taken to h(n)
unfoldable pub map_limit : (ℕ → ℕ) → Limit → Limit
map_limit h none = none
map_limit h (at_most n) = at_most (h n)

-- the smaller of two limits
unfoldable pub smaller : Limit → Limit → Limit
smaller none m = m
smaller (at_most n) none = at_most n
smaller (at_most n) (at_most m) = at_most (min n m)

-- x, cut down to the limit
unfoldable pub cut : ℕ → Limit → ℕ
cut x none = x
cut x (at_most n) = min x n

-- none where it is so marked, else the number
unfoldable pub limit_unless : Bool → ℕ → Limit
limit_unless true n = none
limit_unless false n = at_most n

-- d is the delay limit in slots, 0 to 64, or 255 for none.
unfoldable pub delay_limit : ℕ → Limit
delay_limit d = limit_unless (eqb d 255) d

-- q is the buffer limit in packets, 0 to 1,000,000, or 4,294,967,295 for none.
unfoldable pub buffer_limit : ℕ → Limit
buffer_limit q = limit_unless (eqb q 4294967295) q
