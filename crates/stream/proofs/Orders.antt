-- The refusal numbers that are judged here are the first that apply in their places' orders.
use mathlib.Core.List.{List, [], ◌∷◌}
use Prim.Native.Nat.{ℕ, ◌+◌, ◌*◌}
use lib.ListN.{length}
use Rattle.orders.specs.Order.{FirstThatApplies}
use Rattle.orders.specs.Places.{bursts_order, file_order}
use Rattle.refusals.proofs.OrderedRefusals.{◌and_then◌, judged_none, judged_below, judged_unequal, judged_any}
use Rattle.refusals.proofs.TableOrder.{last_order_lem, values_order_lem}
use Rattle.refusals.proofs.Orders.{delay_order, buffer_order, length_order, counts_order_lem}
use Rattle.stream.specs.Format as file
use Rattle.stream.specs.Refusals.{few_bytes_refusal, size_refusal, bursts_refusal, sizes_refusal, contents_refusal, file_refusal}

bursts_order_lem : (most before : ℕ) (slots : List ℕ) → FirstThatApplies (bursts_order most before slots) (bursts_refusal most before slots)
unfolding bursts_order bursts_refusal
bursts_order_lem most before [] = judged_none
bursts_order_lem most before (slot ∷ later) = judged_any 13 slot most before and_then bursts_order_lem most slot later

-- File: 12, 1, 10, 13, 2, then the entries, 6, 7, 14 over all bursts, 8 over all counts.
pub file_order_lem : (bytes : List ℕ) → FirstThatApplies
    (file_order (length bytes) (file.last bytes) (file.slots bytes) (file.bursts bytes) (file.table_of bytes) (file.delay bytes) (file.buffer bytes) (file.burst_slots bytes) (file.burst_counts bytes))
    (file_refusal bytes)
unfolding file_refusal sizes_refusal contents_refusal few_bytes_refusal size_refusal
file_order_lem bytes =
    let sizes =
    judged_below 11 (length bytes) 20 and_then last_order_lem (file.last bytes)
    and_then (length_order (file.slots bytes) and_then length_order (file.bursts bytes))
    and_then judged_unequal 12 (length bytes) (20 + 4 * (file.last bytes + 1) + 8 * file.bursts bytes) in
    sizes and_then values_order_lem (file.table_of bytes)
    and_then delay_order (file.delay bytes)
    and_then buffer_order (file.buffer bytes)
    and_then bursts_order_lem (file.slots bytes) 0 (file.burst_slots bytes)
    and_then counts_order_lem (file.burst_counts bytes)
