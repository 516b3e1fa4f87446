-- The refusal number of a claim is the first that applies in its place's order.
use lib.ListN.{length}
use Rattle.orders.specs.Order.{FirstThatApplies}
use Rattle.orders.specs.Places.{certificate_order}
use Rattle.refusals.proofs.OrderedRefusals.{◌and_then◌}
use Rattle.refusals.proofs.Orders.{set_up_order_lem, length_order, list_order, counts_order_lem}
use Rattle.certificate.specs.Claim.{Claim}
use Rattle.certificate.specs.Checked.{five_lists_refusal, certificate_refusal}

-- Anyone's rows with a certificate: set-up, 10, 11, 8.
pub certificate_order_lem : (c : Claim) → FirstThatApplies
    (certificate_order c.table c.delay c.buffer c.trace (length c.admitted) (length c.departed) (length c.admitted_from) (length c.admitted_by) (length c.departed_from))
    (certificate_refusal c)
unfolding certificate_refusal five_lists_refusal
certificate_order_lem c =
    let T = length c.trace in
    set_up_order_lem c.table c.delay c.buffer and_then length_order T
    and_then (list_order (length c.admitted) T and_then list_order (length c.departed) T and_then list_order (length c.admitted_from) T
    and_then list_order (length c.admitted_by) T and_then list_order (length c.departed_from) T)
    and_then counts_order_lem c.trace
