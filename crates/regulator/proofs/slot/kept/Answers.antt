-- `kept` goes by the number as its definition does.
use Rattle.std.proofs.Common.{refl, rules}
use Rattle.orders.proofs.Given.{number_of_is_ok, number_of_not_ok}
use Rattle.regulator.proofs.SlotAnswers.{kept-accepted, kept_refused}
use Rattle.regulator.proofs.slot.kept.Goals as goal

pub returns-then-is_ok : goal.returns-then-is_ok
returns-then-is_ok g c = kept-accepted _ c.args.after c.args.before (number_of_is_ok c.args.judged _ refl (search rules))

pub returns-else-is_ok : goal.returns-else-is_ok
returns-else-is_ok g c = kept_refused _ c.args.after c.args.before (number_of_not_ok c.args.judged _ refl (search rules))
