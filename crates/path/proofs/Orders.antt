-- The refusal numbers that are judged here are the first that apply in their places' orders.
use mathlib.Core.List.{List, [], ◌∷◌}
use Prim.Native.Nat.{ℕ, ◌*◌}
use lib.ListN.{length}
use Rattle.orders.specs.Order.{◌unless◌from◌to◌, each, FirstThatApplies}
use Rattle.orders.specs.Places.{table_order, path_order}
use Rattle.refusals.proofs.OrderedRefusals.{◌and_then◌, judged_none, judged_below}
use Rattle.refusals.proofs.TableOrder.{table_order_lem}
use Rattle.refusals.proofs.Orders.{limits_order_lem, length_order, list_order, counts_order_lem}
use Rattle.path.specs.Refusals.{stages_refusal, tables_refusal, path_refusal}

tables_order : (tables : List (List ℕ)) → FirstThatApplies (each table_order tables) (tables_refusal tables)
unfolding each tables_refusal
tables_order [] = judged_none
tables_order (table ∷ later) = table_order_lem table and_then tables_order later

stages_order : (stages : ℕ) → FirstThatApplies (17 unless stages from 1 to 4) (stages_refusal stages)
unfolding stages_refusal
stages_order stages = judged_below 16 stages 1 and_then judged_below 16 4 stages

-- Path: 17, the tables, 6, 7, 23, 10, 11, 8.
pub path_order_lem : (stages : ℕ) (tables : List (List ℕ)) (d q : ℕ) (trace : List ℕ) (ins drops outs : ℕ)
    → FirstThatApplies (path_order stages tables d q trace ins drops outs) (path_refusal stages tables d q trace ins drops outs)
unfolding path_refusal
path_order_lem stages tables d q trace ins drops outs =
    let T = length trace in
    stages_order stages and_then tables_order tables
    and_then limits_order_lem d q
    and_then length_order T
    and_then (list_order ins T and_then list_order drops T and_then list_order outs (stages * T))
    and_then counts_order_lem trace
