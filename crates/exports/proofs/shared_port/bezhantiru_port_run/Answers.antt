-- `exports::shared_port::bezhantiru_port_run` meets its contract: what the port's run answers, its verdict as a number.
use Rattle.std.proofs.Common.{◌∙◌}
use Rattle.orders.proofs.Given.{number_verdict}
use Rattle.exports.proofs.ByNumber.{port_by-number}
use Rattle.exports.proofs.shared_port.bezhantiru_port_run.Goals as goal

pub returns : goal.returns
returns c = port_by-number (c.number_given.ensures ∙ number_verdict _) c.port_run.ensures
