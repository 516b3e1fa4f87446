-- The refusal numbers that are judged here are the first that apply in their places' orders.
use mathlib.Core.Path.{◌≡◌}
use mathlib.Core.Bool.{Bool, true, false}
use Prim.Native.Nat.{ℕ, ◌≤◌, ◌<◌}
use native.Mathlib.Omega.{arith}
use lib.Dec.{ltb}
use borrow.Author.Tests.{ltb-true, ltb-false}
use Rattle.orders.specs.Order.{FirstThatApplies}
use Rattle.orders.specs.Places.{question_order, windows_order}
use Rattle.orders.specs.Refusal.{pick, ◌when◌}
use Rattle.question.specs.Question.{asked, window_bound}
use Rattle.question.specs.Windows.{windows_refusal}
use Rattle.envelope.specs.declared.table.Envelope.{Envelope}
use Rattle.question.specs.Question.{Answer}
use Rattle.question.specs.Question as answer
use Rattle.refusals.proofs.OrderedRefusals.{◌and_then◌, judged_when, judged_below, judged_unequal}

-- the number that an answer stands for
unfoldable pub answer_number : Answer → ℕ
answer_number (answer.Bound b) = 0
answer_number (answer.Refused n) = n

-- Envelope question: 5.
pub question_order_lem : (e : Envelope) (window : ℕ) → FirstThatApplies (question_order window) (answer_number (asked e window))
unfolding asked answer_number pick ◌when◌
question_order_lem e window = by (ltb 4160 window) (ltb-true 4160 window) (ltb-false 4160 window)
  where
    by : (far : Bool) → (far ≡ true → 4160 < window) → (far ≡ false → window ≤ 4160)
        → FirstThatApplies (question_order window) (answer_number (pick far (answer.Refused 5) (answer.Bound (window_bound e window))))
    by true p q = judged_when (4160 < window) 4 true p (λ e r. absurd (omega (arith, q e)))
    by false p q = judged_when (4160 < window) 4 false p (λ e r. absurd (omega (arith, q e)))

-- Many windows at once: 5, 11.
pub windows_order_lem : (row pieces : ℕ) → FirstThatApplies (windows_order row pieces) (windows_refusal row pieces)
unfolding windows_refusal
windows_order_lem row pieces = judged_below 4 4161 row and_then judged_unequal 10 pieces row
