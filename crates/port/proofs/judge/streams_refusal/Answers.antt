-- `streams_refusal` makes the tests of its definition.
use Rattle.std.proofs.Common.{arith}
use Rattle.std.proofs.lemmas.Grind.{common_steps}
use Rattle.orders.specs.Refusal.{◌when◌, ◌or_else◌}
use Rattle.orders.specs.Answered.{number_given, refusal_number}
use Rattle.port.specs.Refusals.{streams_refusal}
use Rattle.port.proofs.judge.streams_refusal.Goals as goal

pub returns-then-slots-gt-LONGEST_RUN : goal.returns-then-slots-gt-LONGEST_RUN
unfolding streams_refusal ◌when◌ ◌or_else◌ number_given refusal_number
returns-then-slots-gt-LONGEST_RUN c = grind (arith, common_steps)

pub returns-else-slots-gt-LONGEST_RUN : goal.returns-else-slots-gt-LONGEST_RUN
unfolding streams_refusal ◌when◌ ◌or_else◌ number_given refusal_number
returns-else-slots-gt-LONGEST_RUN c = grind (arith, common_steps)
