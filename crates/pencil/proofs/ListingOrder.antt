-- The refusal numbers that are judged here are the first that apply in their places' orders.
use Prim.Native.Nat.{ℕ, ◌*◌, ◌^◌}
use Rattle.orders.specs.Order.{FirstThatApplies}
use Rattle.orders.specs.Places.{listing_order}
use Rattle.refusals.proofs.OrderedRefusals.{◌and_then◌}
use Rattle.refusals.proofs.Orders.{short_order, list_order}
use Rattle.pencil.specs.Listing.{listing_refusal}

-- Listing: 24, 11.
pub listing_order_lem : (slots places : ℕ) → FirstThatApplies (listing_order slots places) (listing_refusal slots places)
unfolding listing_refusal
listing_order_lem slots places = short_order slots and_then list_order places (slots * 4 ^ slots)
