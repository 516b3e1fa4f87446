-- The refusal numbers that are judged here are the first that apply in their places' orders.
use mathlib.Core.List.{List}
use Prim.Native.Nat.{ℕ}
use lib.ListN.{length}
use Rattle.orders.specs.Order.{FirstThatApplies}
use Rattle.orders.specs.Places.{rival_order}
use Rattle.refusals.proofs.OrderedRefusals.{◌and_then◌}
use Rattle.refusals.proofs.Orders.{set_up_order_lem, length_order, list_order, counts_order_lem}
use Rattle.rivals.specs.Judgement.{rival_refusal}

-- Anyone's rows: set-up, 10, 11, 8.
pub rival_order_lem : (table : List ℕ) (d q : ℕ) (trace : List ℕ) (ins outs : ℕ)
    → FirstThatApplies (rival_order table d q trace ins outs) (rival_refusal table d q trace ins outs)
unfolding rival_refusal
rival_order_lem table d q trace ins outs =
    let T = length trace in
    set_up_order_lem table d q and_then length_order T and_then (list_order ins T and_then list_order outs T) and_then counts_order_lem trace
