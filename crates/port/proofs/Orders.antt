-- The refusal numbers that are judged here are the first that apply in their places' orders.
use mathlib.Core.List.{List, [], ◌∷◌}
use Prim.Native.Nat.{ℕ, ◌*◌, ◌<◌}
use lib.ListN.{length}
use Rattle.orders.specs.Order.{◌if◌, each, FirstThatApplies}
use Rattle.orders.specs.Places.{port_order}
use Rattle.refusals.proofs.OrderedRefusals.{◌and_then◌, judged_none, judged_below}
use Rattle.refusals.proofs.Orders.{list_order, counts_order_lem}
use Rattle.port.specs.Refusals.{streams_refusal, deadlines_refusal, port_refusal}

deadlines_order : (deadlines : List ℕ) → FirstThatApplies (each (λ deadline. 22 if (64 < deadline) ∷ []) deadlines) (deadlines_refusal deadlines)
unfolding each deadlines_refusal
deadlines_order [] = judged_none
deadlines_order (deadline ∷ later) = judged_below 21 64 deadline and_then deadlines_order later

-- Port: 21, 22, 11, 8.
pub port_order_lem : (deadlines : List ℕ) (slots : ℕ) (input : List ℕ) (sent late : ℕ)
    → FirstThatApplies (port_order deadlines slots input sent late) (port_refusal deadlines slots input sent late)
unfolding port_refusal streams_refusal
port_order_lem deadlines slots input sent late =
    let streams = length deadlines in
    let range = judged_below 20 streams 1 and_then judged_below 20 8 streams and_then judged_below 20 256 slots in
    range and_then deadlines_order deadlines
    and_then (list_order (length input) (streams * slots) and_then list_order sent (streams * slots) and_then list_order late streams)
    and_then counts_order_lem input
