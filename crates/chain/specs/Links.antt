-- A link, read off any rows: f at the windows 0 to 4,160, window 0 last, and totals by the slots 0 to 4,160. Of the rows of a table and a
-- trace it is the link of document 02, request 2.8.
use Rattle.std.specs.Prelude.{ℕ, ◌+◌, ◌-◌, Bool, false, cond, ◌&&◌, List, ◌==◌, nat_le, nat_lt, slice_index}
use Rattle.calculus.specs.Numbers.Limit.{Limit, limit_unless}
use Rattle.calculus.specs.Regulators.Clipper.{delay_bound, buffer_bound}
use Rattle.chain_calculus.specs.Chain.{is_number}
use Rattle.refusals.specs.Limits.{buffer_limit}

-- f at a window
unfoldable pub at_window : List ℕ → ℕ → ℕ
at_window windows w = slice_index windows (4160 - w)

-- a delay limit that the rows reach, and none for any other number
unfoldable pub reached_delay : ℕ → Limit
reached_delay d = limit_unless (nat_lt 64 d) d

-- whether an amount is f(w+d), and whether it is f(w-1) + q
unfoldable pub delay_makes : List ℕ → ℕ → ℕ → ℕ → Bool
delay_makes windows d w v = is_number (delay_bound (at_window windows) (reached_delay d) w) v

unfoldable pub buffer_makes : List ℕ → ℕ → ℕ → ℕ → Bool
buffer_makes windows q w v = is_number (buffer_bound (at_window windows) (buffer_limit q) w) v

-- A sound link from slot s to slot t: the slots rise, none is above 4,096, and its amount v is that of its mark: 1, what arrived
-- after s through t; 2, f(w+d); 3, f(w-1) + q.
unfoldable pub row_sound : List ℕ → List ℕ → ℕ → ℕ → ℕ → ℕ → ℕ → ℕ → Bool
row_sound windows arrived d q s t mark v =
    nat_lt s t
    && (nat_le t 4096
    && cond (mark == 1) (v + slice_index arrived s == slice_index arrived t)
    (cond (mark == 2) (delay_makes windows d (t - s) v)
    (cond (mark == 3) (buffer_makes windows q (t - s) v) false)))
