-- The refusal numbers that are judged here are the first that apply in their places' orders.
use mathlib.Core.List.{List, [], ◌∷◌}
use Prim.Native.Nat.{ℕ, ◌/◌, ◌%◌, ◌<◌}
use lib.ListN.{length}
use Rattle.orders.specs.Order.{◌if◌, each, FirstThatApplies}
use Rattle.orders.specs.Places.{device_order}
use Rattle.refusals.proofs.OrderedRefusals.{◌and_then◌, judged_none, judged_below, judged_unequal}
use Rattle.refusals.proofs.Orders.{limits_order_lem}
use Rattle.device.specs.Profile.{buckets_refusal, numbers_refusal, device_refusal}

numbers_order : (profile : List ℕ) → FirstThatApplies (each (λ x. 16 if (1000000 < x) ∷ []) profile) (numbers_refusal profile)
unfolding each numbers_refusal
numbers_order [] = judged_none
numbers_order (x ∷ later) = judged_below 15 1000000 x and_then numbers_order later

-- Device: 15, 16, 6, 7, 23.
pub device_order_lem : (profile : List ℕ) (d q : ℕ) → FirstThatApplies (device_order profile d q) (device_refusal profile d q)
unfolding device_refusal buckets_refusal
device_order_lem profile d q =
    let buckets = judged_unequal 14 (length profile % 2) 0 and_then judged_below 14 (length profile / 2) 1 and_then judged_below 14 4 (length profile / 2) in
    (buckets and_then numbers_order profile) and_then limits_order_lem d q
