-- The least of finitely many numbers, one for each index of a range (document 01: "the least of .. for s from 0 to t").
use Rattle.std.specs.Prelude.{ℕ, zero, suc, ◌+◌, ◌-◌, min}

-- the least of h(a), h(a+1), .., h(a+n)
unfoldable pub least_of : ℕ → ℕ → (ℕ → ℕ) → ℕ
least_of a zero h = h a
least_of a (suc n) h = min (least_of a n h) (h (a + suc n))

-- the least of h(k) for k from a to b; a range whose end lies below its start counts as its start alone
unfoldable pub least : ℕ → ℕ → (ℕ → ℕ) → ℕ
least a b h = least_of a (b - a) h
