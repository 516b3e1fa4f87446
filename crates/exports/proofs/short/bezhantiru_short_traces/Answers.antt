-- `exports::short::bezhantiru_short_traces` meets its contract: what the listing answers, its verdict as a number.
use Rattle.std.proofs.Common.{◌∙◌}
use Rattle.orders.proofs.Given.{number_verdict}
use Rattle.exports.proofs.RunsByNumber.{listed_by-number}
use Rattle.exports.proofs.short.bezhantiru_short_traces.Goals as goal

pub returns : goal.returns
returns c = listed_by-number (c.number_given.ensures ∙ number_verdict _) c.list_traces.ensures
