-- `list_traces` refuses before it writes, or fills the list.
use Rattle.std.proofs.Common.{length, rules}
use Rattle.pencil_calculus.specs.Traces.{all_traces}
use Rattle.orders.specs.Answered.{verdict_given}
use Rattle.orders.proofs.Answered.{refused_list, accepted-answer, accepted_list}
use Rattle.orders.proofs.Given.{refusal_numbered, given_number, given_none, verdict_refused}
use Rattle.pencil.proofs.FilledListing.{listing-accepted}
use Rattle.pencil.proofs.listing.list_traces.Goals as goal

pub returns-in_err-listing_refusal : goal.returns-in_err-listing_refusal
returns-in_err-listing_refusal c =
    let z = c.args in
    let given = c.listing_refusal in
    let refusal = c.in_err-listing_refusal.field-0.0 in
    record {
      answered = verdict_refused given.result c.from_residual.result refusal _ given.ensures (search rules) (search rules);
      filled = refused_list _ _ (refusal_numbered refusal) (given_number given.result refusal _ given.ensures (search rules)) (all_traces z.slots) z.list.now;
    }

pub fill-requires : goal.fill-requires
fill-requires c =
    let z = c.args in
    listing-accepted z.slots (length z.list.now) (given_none c.listing_refusal.result _ _ c.listing_refusal.ensures (search rules))

pub returns : goal.returns
unfolding verdict_given
returns c =
    let z = c.args in
    let none = given_none c.listing_refusal.result _ _ c.listing_refusal.ensures (search rules) in
    record {
      answered = accepted-answer _ none;
      filled = accepted_list _ none _ (all_traces z.slots) z.list.now c.fill.ensures;
    }
