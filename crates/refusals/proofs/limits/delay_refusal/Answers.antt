-- `delay_refusal` makes the tests of its definition.
use Rattle.std.proofs.Common.{rules}
use Rattle.orders.specs.Answered.{number_given, refusal_number}
use Rattle.refusals.specs.Limits.{delay_refusal}
use Rattle.refusals.proofs.Tests.{limit_accepted, limit_refused}
use Rattle.refusals.proofs.limits.delay_refusal.Goals as goal

pub returns-then-delay-eq-NO_DELAY : goal.returns-then-delay-eq-NO_DELAY
unfolding delay_refusal number_given refusal_number
returns-then-delay-eq-NO_DELAY c = limit_accepted 6 c.args.delay.0 64 255 c.if-delay-eq-NO_DELAY.either

pub returns-else-delay-eq-NO_DELAY : goal.returns-else-delay-eq-NO_DELAY
unfolding delay_refusal number_given refusal_number
returns-else-delay-eq-NO_DELAY c = limit_refused 6 c.args.delay.0 64 255 (search rules)
