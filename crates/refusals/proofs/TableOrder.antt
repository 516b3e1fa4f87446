-- The refusal numbers of tables are the first that apply in their order.
use mathlib.Core.List.{List, [], ◌∷◌}
use Prim.Native.Nat.{ℕ, ◌-◌}
use lib.ListN.{length, get_or, drop}
use Rattle.orders.specs.Order.{FirstThatApplies}
use Rattle.orders.specs.Places.{last_order, entries_order, values_order, table_order}
use Rattle.refusals.specs.Table.{last_refusal, zero_refusal, entries_refusal, values_refusal, table_refusal}
use Rattle.refusals.proofs.OrderedRefusals.{◌and_then◌, judged_none, judged_below, judged_unequal}

pub last_order_lem : (last : ℕ) → FirstThatApplies (last_order last) (last_refusal last)
unfolding last_refusal
last_order_lem last = judged_below 0 last 1 and_then judged_below 0 64 last

pub entries_order_lem : (before : ℕ) (entries : List ℕ) → FirstThatApplies (entries_order before entries) (entries_refusal before entries)
unfolding entries_order entries_refusal
entries_order_lem before [] = judged_none
entries_order_lem before (entry ∷ later) = judged_below 2 1000000 entry and_then judged_below 3 entry before and_then entries_order_lem entry later

pub values_order_lem : (table : List ℕ) → FirstThatApplies (values_order table) (values_refusal table)
unfolding zero_refusal
values_order_lem table = judged_unequal 1 (get_or table 0 0) 0 and_then entries_order_lem 0 (drop 1 table)

-- Table: 1, 2, then entries from window 1 on, at each 3 before 4.
pub table_order_lem : (table : List ℕ) → FirstThatApplies (table_order table) (table_refusal table)
table_order_lem table = last_order_lem (length table - 1) and_then values_order_lem table
