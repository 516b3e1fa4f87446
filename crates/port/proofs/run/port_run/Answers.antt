-- `port_run` refuses before it writes, or works the slots.
use lib.ListN.{length}
use borrow.Author.Rules.{rules}
use Rattle.orders.specs.Answered.{verdict_given}
use Rattle.orders.proofs.Given.{given_none}
use Rattle.port.proofs.RefusalParts.{port-accepted}
use Rattle.port.proofs.RunAnswer.{port_refused, port_answered}
use Rattle.port.proofs.run.port_run.Goals as goal

pub returns-in_err-port_refusal : goal.returns-in_err-port_refusal
returns-in_err-port_refusal c =
    port_refused _ _ _ _ _ _ c.port_refusal.result c.from_residual.result c.in_err-port_refusal.field-0.0 c.port_refusal.ensures (search rules) (search rules)

pub reach_of-requires : goal.reach_of-requires
reach_of-requires c =
    let z = c.args in
    (port-accepted z.deadlines.now z.slots.0 z.input.now (length z.sent.now) (length z.late.now)
    (given_none c.port_refusal.result _ _ c.port_refusal.ensures (search rules))).timely

pub work-requires : goal.work-requires
work-requires c = (port-accepted _ _ _ _ _ (given_none c.port_refusal.result _ _ c.port_refusal.ensures (search rules)), c.reach_of.ensures)

pub returns : goal.returns
unfolding verdict_given
returns c = port_answered _ _ _ _ _ _ (given_none c.port_refusal.result _ _ c.port_refusal.ensures (search rules)) _ _ c.work.ensures
