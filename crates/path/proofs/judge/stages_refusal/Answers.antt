-- `stages_refusal` makes the tests of its definition.
use Rattle.std.proofs.Common.{arith}
use Rattle.std.proofs.lemmas.Grind.{common_steps}
use Rattle.orders.specs.Refusal.{◌when◌, ◌or_else◌}
use Rattle.orders.specs.Answered.{number_given, refusal_number}
use Rattle.path.specs.Refusals.{stages_refusal}
use Rattle.path.proofs.judge.stages_refusal.Goals as goal

pub returns-then-stages-gt-MOST_STAGES : goal.returns-then-stages-gt-MOST_STAGES
unfolding stages_refusal ◌when◌ ◌or_else◌ number_given refusal_number
returns-then-stages-gt-MOST_STAGES c = grind (arith, common_steps)

pub returns-else-stages-gt-MOST_STAGES : goal.returns-else-stages-gt-MOST_STAGES
unfolding stages_refusal ◌when◌ ◌or_else◌ number_given refusal_number
returns-else-stages-gt-MOST_STAGES c = grind (arith, common_steps)
