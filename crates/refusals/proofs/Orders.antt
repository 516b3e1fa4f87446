-- The refusal numbers that are judged here are the first that apply in their places' orders.
use mathlib.Core.Logic.{◌≢◌}
use mathlib.Core.List.{List, [], ◌∷◌}
use Prim.Native.Nat.{ℕ, ◌<◌}
use Rattle.orders.specs.Order.{◌if◌, each, FirstThatApplies}
use Rattle.orders.specs.Places.{limits_order, set_up_order, slot_order, counts_order}
use Rattle.refusals.proofs.OrderedRefusals.{◌and_then◌, judged_none, judged_below, judged_upto, judged_unequal, judged_neither, judged_both}
use Rattle.refusals.proofs.TableOrder.{table_order_lem}
use Rattle.refusals.specs.Limits.{delay_refusal, buffer_refusal, both_refusal, limits_refusal, arrivals_refusal, slots_refusal, set_up_refusal, slot_refusal}
use Rattle.refusals.specs.Lengths.{length_refusal, short_refusal, lists_refusal, counts_refusal}

pub delay_order : (d : ℕ) → FirstThatApplies (6 if ((64 < d) × (d ≢ 255)) ∷ []) (delay_refusal d)
unfolding delay_refusal
delay_order d = judged_neither 5 64 255 d

pub buffer_order : (q : ℕ) → FirstThatApplies (7 if ((1000000 < q) × (q ≢ 4294967295)) ∷ []) (buffer_refusal q)
unfolding buffer_refusal
buffer_order q = judged_neither 6 1000000 4294967295 q

-- Limits: 6, 7, 23.
pub limits_order_lem : (d q : ℕ) → FirstThatApplies (limits_order d q) (limits_refusal d q)
unfolding limits_refusal both_refusal
limits_order_lem d q = delay_order d and_then buffer_order q and_then judged_both 22 d 255 q 4294967295

-- Set-up: table, 6, 7, 23.
pub set_up_order_lem : (table : List ℕ) (d q : ℕ) → FirstThatApplies (set_up_order table d q) (set_up_refusal table d q)
unfolding set_up_refusal
set_up_order_lem table d q = table_order_lem table and_then limits_order_lem d q

-- Slot: 8, 9.
pub slot_order_lem : (n taken : ℕ) → FirstThatApplies (slot_order n taken) (slot_refusal n taken)
unfolding slot_refusal arrivals_refusal slots_refusal
slot_order_lem n taken = judged_below 7 1000000 n and_then judged_upto 8 1000000 taken

pub counts_order_lem : (counts : List ℕ) → FirstThatApplies (counts_order counts) (counts_refusal counts)
unfolding each counts_refusal arrivals_refusal
counts_order_lem [] = judged_none
counts_order_lem (n ∷ later) = judged_below 7 1000000 n and_then counts_order_lem later

pub length_order : (slots : ℕ) → FirstThatApplies (10 if (4096 < slots) ∷ []) (length_refusal slots)
unfolding length_refusal
length_order slots = judged_below 9 4096 slots

pub list_order : (list slots : ℕ) → FirstThatApplies (11 if (list ≢ slots) ∷ []) (lists_refusal slots list)
unfolding lists_refusal
list_order list slots = judged_unequal 10 list slots

pub short_order : (slots : ℕ) → FirstThatApplies (24 if (5 < slots) ∷ []) (short_refusal slots)
unfolding short_refusal
short_order slots = judged_below 23 5 slots
