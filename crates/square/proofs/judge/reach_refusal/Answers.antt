-- `reach_refusal` makes the test of its definition.
use Rattle.std.proofs.Common.{arith}
use Rattle.std.proofs.lemmas.Grind.{common_steps}
use Rattle.orders.specs.Refusal.{pick, ◌when◌}
use Rattle.orders.specs.Answered.{number_given, refusal_number}
use Rattle.square.specs.RunRefusals.{reach_refusal}
use Rattle.square.proofs.judge.reach_refusal.Goals as goal

pub returns-then-reach-gt32 : goal.returns-then-reach-gt32
unfolding reach_refusal pick ◌when◌ number_given refusal_number
returns-then-reach-gt32 c = grind (arith, common_steps)

pub returns-else-reach-gt32 : goal.returns-else-reach-gt32
unfolding reach_refusal pick ◌when◌ number_given refusal_number
returns-else-reach-gt32 c = grind (arith, common_steps)
