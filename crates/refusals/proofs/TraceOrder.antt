-- The refusal numbers that are judged here are the first that apply in their places' orders.
use mathlib.Core.Logic.{◌≢◌}
use mathlib.Core.List.{List, [], ◌∷◌}
use Prim.Native.Nat.{ℕ, ◌<◌}
use lib.ListN.{length}
use Rattle.orders.specs.Order.{Order, ◌if◌, ◌then◌, FirstThatApplies}
use Rattle.orders.specs.Places.{counts_order, run_order, alone_order}
use Rattle.refusals.proofs.OrderedRefusals.{◌and_then◌}
use Rattle.refusals.proofs.TableOrder.{table_order_lem}
use Rattle.refusals.proofs.Orders.{set_up_order_lem, length_order, list_order, counts_order_lem}
use Rattle.refusals.specs.WholeTrace.{trace_refusal, run_refusal, alone_refusal}

-- A trace and its lists: 10, 11, 8.
abbrev trace_order : List ℕ → ℕ → ℕ → ℕ → Order
trace_order trace ins drops outs =
    10 if (4096 < length trace) ∷ []
    then 11 if (ins ≢ length trace) ∷ 11 if (drops ≢ length trace) ∷ 11 if (outs ≢ length trace) ∷ []
    then counts_order trace

trace_order_lem : (trace : List ℕ) (ins drops outs : ℕ) → FirstThatApplies (trace_order trace ins drops outs) (trace_refusal trace ins drops outs)
unfolding trace_refusal
trace_order_lem trace ins drops outs =
    let T = length trace in
    length_order T and_then (list_order ins T and_then list_order drops T and_then list_order outs T) and_then counts_order_lem trace

-- Whole trace: set-up, 10, 11, 8.
pub run_order_lem : (table : List ℕ) (d q : ℕ) (trace : List ℕ) (ins drops outs : ℕ)
    → FirstThatApplies (run_order table d q trace ins drops outs) (run_refusal table d q trace ins drops outs)
unfolding run_refusal
run_order_lem table d q trace ins drops outs = set_up_order_lem table d q and_then trace_order_lem trace ins drops outs

-- The regulator alone: table, 10, 11, 8.
pub alone_order_lem : (table trace : List ℕ) (ins drops outs : ℕ)
    → FirstThatApplies (alone_order table trace ins drops outs) (alone_refusal table trace ins drops outs)
unfolding alone_refusal
alone_order_lem table trace ins drops outs = table_order_lem table and_then trace_order_lem trace ins drops outs
