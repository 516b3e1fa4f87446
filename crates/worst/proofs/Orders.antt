-- The refusal numbers that are judged here are the first that apply in their places' orders.
use mathlib.Core.List.{List}
use Prim.Native.Nat.{ℕ}
use Rattle.orders.specs.Order.{FirstThatApplies}
use Rattle.orders.specs.Places.{worst_order}
use Rattle.refusals.proofs.OrderedRefusals.{◌and_then◌, judged_below}
use Rattle.refusals.proofs.Orders.{set_up_order_lem, length_order, list_order}
use Rattle.worst.specs.Worst.{most_refusal, worst_refusal}

-- The trace that loses most: set-up, 10, 11, 8.
pub worst_order_lem : (table : List ℕ) (d q n p places : ℕ) → FirstThatApplies (worst_order table d q n p places) (worst_refusal table d q n p places)
unfolding worst_refusal most_refusal
worst_order_lem table d q n p places = set_up_order_lem table d q and_then length_order n and_then list_order places n and_then judged_below 7 1000000 p
