-- The refusal numbers that are judged here are the first that apply in their places' orders.
use mathlib.Core.List.{List}
use Prim.Native.Nat.{ℕ}
use lib.ListN.{length}
use Rattle.orders.specs.Order.{FirstThatApplies}
use Rattle.orders.specs.Places.{buffer_size_order, delay_size_order}
use Rattle.refusals.proofs.OrderedRefusals.{◌and_then◌}
use Rattle.refusals.proofs.TableOrder.{table_order_lem}
use Rattle.refusals.proofs.Orders.{delay_order, buffer_order, length_order, counts_order_lem}
use Rattle.size.specs.Size.{counted_refusal, buffer_size_refusal, delay_size_refusal}

-- The smallest buffer limit: table, 6, 10, 8.
pub buffer_size_order_lem : (table : List ℕ) (d : ℕ) (trace : List ℕ) → FirstThatApplies (buffer_size_order table d trace) (buffer_size_refusal table d trace)
unfolding buffer_size_refusal counted_refusal
buffer_size_order_lem table d trace = table_order_lem table and_then delay_order d and_then length_order (length trace) and_then counts_order_lem trace

-- The smallest delay limit: table, 7, 10, 8.
pub delay_size_order_lem : (table : List ℕ) (q : ℕ) (trace : List ℕ) → FirstThatApplies (delay_size_order table q trace) (delay_size_refusal table q trace)
unfolding delay_size_refusal counted_refusal
delay_size_order_lem table q trace = table_order_lem table and_then buffer_order q and_then length_order (length trace) and_then counts_order_lem trace
