-- `windows` fills a row and a list of pieces that get no number.
use Rattle.orders.specs.Answered.{verdict_given, refusal_number}
use Rattle.question.proofs.WindowRow.{windows_far, windows_other, windows_filled}
use borrow.Author.Rules.{rules}
use Rattle.question.proofs.many_windows.windows.Goals as goal

pub returns-then-row-gt-ALL_WINDOWS : goal.returns-then-row-gt-ALL_WINDOWS
unfolding verdict_given refusal_number
returns-then-row-gt-ALL_WINDOWS c = let z = c.args in windows_far z.e z.row.now z.pieces.now (search rules)

pub returns-then-pieces-row : goal.returns-then-pieces-row
unfolding verdict_given refusal_number
returns-then-pieces-row c = let z = c.args in windows_other z.e z.row.now z.pieces.now (search rules) (search rules)

pub returns : goal.returns
returns c =
    let z = c.args in windows_filled z.e z.row.now z.pieces.now (search rules) c.fill.ensures (search rules)
