-- `zero_refusal` tests the entry at window 0; a table without entries has nothing to test.
use Rattle.std.proofs.Common.{rules, get_or}
use borrow.Author.Tests.{eq-eqb, ne_eqb}
use lib.ListN.{get_or-eq_default}
use Rattle.orders.specs.Refusal.{◌when◌}
use Rattle.orders.specs.Answered.{number_given, refusal_number}
use Rattle.refusals.specs.Table.{zero_refusal}
use Rattle.refusals.proofs.table.zero_refusal.Goals as goal

pub returns-in_default : goal.returns-in_default
unfolding zero_refusal ◌when◌ number_given refusal_number
returns-in_default c = rw (ne_eqb (get_or c.args.table.now 0 0) 0 (search rules))

pub returns-in-empty : goal.returns-in-empty
unfolding zero_refusal ◌when◌ number_given
returns-in-empty c = rw (get_or-eq_default c.args.table.now 0 {n = 0} (search rules))

pub returns-in-empty-2 : goal.returns-in-empty-2
unfolding zero_refusal ◌when◌ number_given
returns-in-empty-2 c = rw (eq-eqb (get_or c.args.table.now 0 0) 0 (search rules))
