-- What is refused of limits, arrivals and slots, and how a set-up and a slot are judged (document 01, "One slot" and "Refused, by place").
use Rattle.std.specs.Prelude.{ℕ, ◌&&◌, List, ltb, leb, eqb}
unfoldable pub use Rattle.calculus.specs.Numbers.Limit.{delay_limit, buffer_limit}
use Rattle.calculus.specs.Numbers.Sizes.{most_packets, most_delay, most_slots}
use Rattle.orders.specs.Refusal.{pick, ◌when◌, ◌or_else◌}
use Rattle.refusals.specs.Table.{table_refusal}

-- 6: delay is neither 0 to 64 nor 255
unfoldable pub delay_refusal : ℕ → ℕ
delay_refusal d = pick (leb d most_delay) 0 (pick (eqb d 255) 0 6)

-- 7: buffer is neither 0 to 1,000,000 nor 4,294,967,295
unfoldable pub buffer_refusal : ℕ → ℕ
buffer_refusal q = pick (leb q most_packets) 0 (pick (eqb q 4294967295) 0 7)

-- 23: both limits none (document 02, request 2.12)
unfoldable pub both_refusal : ℕ → ℕ → ℕ
both_refusal d q = 23 when (eqb d 255 && eqb q 4294967295)

-- The limits of a set-up: 6, 7, 23.
unfoldable pub limits_refusal : ℕ → ℕ → ℕ
limits_refusal d q = delay_refusal d or_else buffer_refusal q or_else both_refusal d q

-- 8: more than 1,000,000 arrivals
unfoldable pub arrivals_refusal : ℕ → ℕ
arrivals_refusal n = 8 when ltb most_packets n

-- 9: 1,000,000 slots already taken
unfoldable pub slots_refusal : ℕ → ℕ
slots_refusal slots = 9 when leb most_slots slots

-- Set-up: table, 6, 7, 23.
unfoldable pub set_up_refusal : List ℕ → ℕ → ℕ → ℕ
set_up_refusal table d q = table_refusal table or_else limits_refusal d q

-- Slot: 8, 9.
unfoldable pub slot_refusal : ℕ → ℕ → ℕ
slot_refusal arrivals slots = arrivals_refusal arrivals or_else slots_refusal slots
