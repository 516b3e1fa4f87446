-- The refusal numbers that are judged here are the first that apply in their places' orders.
use mathlib.Core.List.{List}
use Prim.Native.Nat.{ℕ}
use lib.ListN.{length}
use Rattle.orders.specs.Order.{FirstThatApplies}
use Rattle.orders.specs.Places.{pencil_order}
use Rattle.refusals.proofs.OrderedRefusals.{◌and_then◌}
use Rattle.refusals.proofs.Orders.{set_up_order_lem, short_order, list_order, counts_order_lem}
use Rattle.pencil.specs.PencilRun.{pencil_refusal}

-- Pencil: set-up, 24, 11, 8.
pub pencil_order_lem : (table : List ℕ) (d q : ℕ) (trace : List ℕ) (ins drops outs : ℕ)
    → FirstThatApplies (pencil_order table d q trace ins drops outs) (pencil_refusal table d q trace ins drops outs)
unfolding pencil_refusal
pencil_order_lem table d q trace ins drops outs =
    let T = length trace in
    set_up_order_lem table d q and_then short_order T and_then (list_order ins T and_then list_order drops T and_then list_order outs T) and_then counts_order_lem trace
