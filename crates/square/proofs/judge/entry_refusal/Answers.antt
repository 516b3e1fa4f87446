-- `entry_refusal` makes the tests of its definition.
use borrow.Author.Tests.{lt-ltb, le-ltb}
use Rattle.orders.specs.Refusal.{◌when◌, ◌or_else◌}
use Rattle.orders.specs.Answered.{number_given, refusal_number}
use Rattle.square.specs.Refusals.{entry_refusal}
use borrow.Author.Rules.{rules}
use Rattle.square.proofs.judge.entry_refusal.Goals as goal

pub returns-then-entry-gt-MOST_PACKETS_32 : goal.returns-then-entry-gt-MOST_PACKETS_32
unfolding entry_refusal ◌when◌ ◌or_else◌ number_given refusal_number
returns-then-entry-gt-MOST_PACKETS_32 c = rw (lt-ltb 1000000 c.args.entry (search rules))

pub returns-then-entry-before : goal.returns-then-entry-before
unfolding entry_refusal ◌when◌ ◌or_else◌ number_given refusal_number
returns-then-entry-before c =
    rw (
      le-ltb 1000000 c.args.entry (search rules),
      lt-ltb c.args.entry c.args.before
          (search rules),
    )

pub returns-else-entry-before : goal.returns-else-entry-before
unfolding entry_refusal ◌when◌ ◌or_else◌ number_given refusal_number
returns-else-entry-before c =
    rw (
      le-ltb 1000000 c.args.entry (search rules),
      le-ltb c.args.entry c.args.before
          (search rules),
    )
