-- `ask` tests the window and works f and its piece.
use mathlib.Core.Path.{ap}
use borrow.Author.Rules.{rules}
use borrow.Author.Tests.{lt-ltb, le-ltb}
use Rattle.orders.specs.Refusal.{pick}
use Rattle.orders.specs.Answered.{refusal_number}
use Rattle.question.specs.Question.{Bound, answer_given, asked}
use Rattle.question.proofs.Asked.{window_bound-is}
use Rattle.question.proofs.question.ask.Goals as goal

pub returns-then-w-gt-LAST_ASKED : goal.returns-then-w-gt-LAST_ASKED
unfolding asked pick answer_given refusal_number
returns-then-w-gt-LAST_ASKED c = rw (lt-ltb 4160 c.args.window.0 (search rules))

pub returns : goal.returns
unfolding asked pick answer_given refusal_number
returns c =
    let z = c.args in
    rw (le-ltb 4160 z.window.0 (search rules)) (ap Bound (window_bound-is c.at_window.result z.e z.window.0
    c.at_window.ensures.0 c.at_window.ensures.1))
