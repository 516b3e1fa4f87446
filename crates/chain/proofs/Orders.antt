-- The refusal numbers that are judged here are the first that apply in their places' orders.
use Rattle.std.proofs.Common.{ℕ, suc, List, length}
use Rattle.orders.specs.Order.{FirstThatApplies}
use Rattle.orders.specs.Places.{chain_order}
use Rattle.refusals.proofs.OrderedRefusals.{◌and_then◌, judged_below}
use Rattle.refusals.proofs.Orders.{set_up_order_lem, length_order, list_order, counts_order_lem}
use Rattle.chain.specs.Refusals.{beyond_refusal, chain_lists_refusal, chain_refusal}

-- Chain: set-up, 10, 11, 8, 18.
pub chain_order_lem : (table : List ℕ) (d q : ℕ) (trace : List ℕ) (t slots marks amounts : ℕ)
    → FirstThatApplies (chain_order table d q trace t slots marks amounts) (chain_refusal table d q trace t slots marks amounts)
unfolding chain_refusal chain_lists_refusal beyond_refusal
chain_order_lem table d q trace t slots marks amounts =
    let T = length trace in
    set_up_order_lem table d q and_then length_order T
    and_then (list_order slots (suc T) and_then list_order marks (suc T) and_then list_order amounts (suc T))
    and_then counts_order_lem trace
    and_then judged_below 17 T t
