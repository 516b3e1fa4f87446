-- `exports::whole_path::bezhantiru_path_run` meets its contract: what the path's run answers, its verdict as a number.
use Rattle.std.proofs.Common.{◌∙◌}
use Rattle.orders.proofs.Given.{number_verdict}
use Rattle.exports.proofs.ByNumber.{lists_by-number}
use Rattle.exports.proofs.whole_path.bezhantiru_path_run.Goals as goal

pub returns : goal.returns
returns c =
    lists_by-number (c.number_given.ensures ∙ number_verdict _) (rw c.from.ensures at c.path_run.ensures)
