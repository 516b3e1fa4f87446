-- `both_refusal` makes the tests of its definition.
use Rattle.std.proofs.Common.{rules}
use borrow.Author.Tests.{eq-eqb}
use Rattle.orders.specs.Refusal.{◌when◌}
use Rattle.orders.specs.Answered.{number_given, refusal_number}
use Rattle.refusals.specs.Limits.{both_refusal}
use Rattle.refusals.proofs.Tests.{not_both}
use Rattle.refusals.proofs.limits.both_refusal.Goals as goal

pub returns-then-buffer-eq-NO_BUFFER : goal.returns-then-buffer-eq-NO_BUFFER
unfolding both_refusal ◌when◌ number_given refusal_number
returns-then-buffer-eq-NO_BUFFER c =
    rw (eq-eqb c.args.delay.0 255 (search rules), eq-eqb c.args.buffer.0 4294967295 (search rules))

pub returns-else-delay-eq-NO_DELAY : goal.returns-else-delay-eq-NO_DELAY
unfolding number_given
returns-else-delay-eq-NO_DELAY c = not_both c.args.delay.0 c.args.buffer.0 c.else-delay-eq-NO_DELAY.either
