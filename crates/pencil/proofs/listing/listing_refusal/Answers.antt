-- `listing_refusal` takes the first number of its parts.
use Rattle.std.proofs.Common.{rules}
use Rattle.orders.proofs.Given.{given_none}
use Rattle.refusals.proofs.Measured.{short_most}
use Rattle.pencil.proofs.FilledListing.{places_small}
use Rattle.pencil.proofs.listing.listing_refusal.Goals as goal

pub traces-requires : goal.traces-requires
traces-requires c = short_most c.args.slots (given_none c.short_refusal.result _ _ c.short_refusal.ensures (search rules))

pub overflow_mul-slots : goal.overflow_mul-slots
overflow_mul-slots c =
    let short = short_most c.args.slots (given_none c.short_refusal.result _ _ c.short_refusal.ensures (search rules)) in
    let small = places_small c.args.slots c.traces.result short c.traces.ensures.1 in
    search (rules, small)
