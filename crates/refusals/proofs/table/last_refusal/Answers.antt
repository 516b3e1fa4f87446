-- `last_refusal` makes the tests of its definition.
use Rattle.std.proofs.Common.{rules}
use Rattle.orders.specs.Answered.{number_given, refusal_number}
use Rattle.refusals.specs.Table.{last_refusal}
use Rattle.refusals.proofs.Tests.{outside, inside}
use Rattle.refusals.proofs.table.last_refusal.Goals as goal

pub returns-then-last-gt-LAST_WINDOW : goal.returns-then-last-gt-LAST_WINDOW
unfolding last_refusal number_given refusal_number
returns-then-last-gt-LAST_WINDOW c = outside 0 c.args.last 1 64 c.if-last-gt-LAST_WINDOW.either

pub returns-else-last-gt-LAST_WINDOW : goal.returns-else-last-gt-LAST_WINDOW
unfolding last_refusal number_given refusal_number
returns-else-last-gt-LAST_WINDOW c = inside 0 c.args.last 1 64 (search rules)
