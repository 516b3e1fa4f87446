-- The trace that loses most (document 02, request 2.13): what is refused, and what is answered and written.
use Rattle.std.specs.Prelude.{◌≡◌, List, ℕ, zero, suc, ltb, length, Result, Ok, Err}
use Rattle.calculus.specs.Numbers.Sizes.{most_packets}
use Rattle.worst_calculus.specs.WorstTrace.{worst_trace, worst_loss}
use Rattle.orders.specs.Refusal.{◌when◌, ◌or_else◌}
use Rattle.refusals.specs.Limits.{delay_limit, buffer_limit, set_up_refusal}
use Rattle.refusals.specs.Lengths.{length_refusal, lists_refusal}
use Rattle.orders.specs.Answered.{refusal_number, unless_refused}
use Rattle.orders.specs.declared.refusal.Refusal.{Refusal}

-- 8: p above 1,000,000
unfoldable pub most_refusal : ℕ → ℕ
most_refusal most = 8 when ltb most_packets most

-- Set-up; then n above 4,096 gets 10, the list's length 11, p above 1,000,000 gets 8.
unfoldable pub worst_refusal : List ℕ → ℕ → ℕ → ℕ → ℕ → ℕ → ℕ
worst_refusal table d q n p places = set_up_refusal table d q or_else length_refusal n or_else lists_refusal n places or_else most_refusal p

-- what is answered: the loss by the last slot, or a number
pub data WorstAnswer : Type 0 where
  Loss : ℕ → WorstAnswer
  Refused : ℕ → WorstAnswer

-- the answer that a call gives
unfoldable pub worst_given : Result ℕ Refusal → WorstAnswer
worst_given (Ok loss) = Loss loss
worst_given (Err refusal) = Refused (refusal_number refusal)

-- the answer that a number stands for, 0 being none
unfoldable pub worst_answer : ℕ → ℕ → WorstAnswer
worst_answer zero loss = Loss loss
worst_answer (suc k) loss = Refused (suc k)

pub record WorstTold (table : List ℕ) (d q n p N : ℕ) (list : List ℕ) (answer : WorstAnswer) (list' : List ℕ) : Type 0 where
  pub told : answer ≡ worst_answer (worst_refusal table d q n p (length list)) (worst_loss table (delay_limit d) (buffer_limit q) n p N)
  pub written : list' ≡ unless_refused (worst_refusal table d q n p (length list)) (worst_trace n p N) list
