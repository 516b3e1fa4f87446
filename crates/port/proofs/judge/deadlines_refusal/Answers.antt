-- `deadlines_refusal` looks for a deadline that is too long.
use mathlib.Core.Path.{refl, sym}
use Rattle.orders.specs.Answered.{number_given, refusal_number}
use Rattle.port.proofs.RefusalParts.{timely_deadlines, late_deadlines}
use Rattle.port.proofs.judge.deadlines_refusal.Goals as goal

pub returns-then-timely : goal.returns-then-timely
unfolding number_given
returns-then-timely c = sym (timely_deadlines c.args.deadlines.now (c.if-timely.ensures.0 refl))

pub returns-else-timely : goal.returns-else-timely
unfolding number_given refusal_number
returns-else-timely c = late_deadlines c.args.deadlines.now c.if-timely.ensures.1
