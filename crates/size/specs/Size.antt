-- The smallest limits: what is refused, and what is answered.
use Rattle.std.specs.Prelude.{Bool, true, false, List, ℕ, zero, suc, leb, length, Result, Ok, Err}
use Rattle.size_calculus.specs.Smallest.{smallest}
use Rattle.orders.specs.Refusal.{◌or_else◌}
use Rattle.refusals.specs.Table.{table_refusal}
use Rattle.refusals.specs.Limits.{delay_refusal, buffer_refusal}
use Rattle.refusals.specs.Lengths.{length_refusal, counts_refusal}
use Rattle.orders.specs.declared.refusal.Refusal.{Refusal}
use Rattle.orders.specs.Answered.{refusal_number}
use Rattle.size.specs.declared.LimitLoss.{LimitLoss}
use Rattle.size.specs.declared.Size.{Size}
use Rattle.size.specs.declared.Size.TheVariants as size

-- what is answered: the smallest limit; or the greatest, which still loses more; or a number
pub data SizeAnswer : Type 0 where
  Found : LimitLoss → SizeAnswer
  NotFound : LimitLoss → SizeAnswer
  Refused : ℕ → SizeAnswer

-- the answer that a call gives
unfoldable pub size_given : Result Size Refusal → SizeAnswer
size_given (Ok (size.Found given)) = Found given
size_given (Ok (size.NotFound given)) = NotFound given
size_given (Err refusal) = Refused (refusal_number refusal)

-- A trace: 10, 8.
unfoldable pub counted_refusal : List ℕ → ℕ
counted_refusal trace = length_refusal (length trace) or_else counts_refusal trace

-- The smallest buffer limit: table, 6, 10, 8.
unfoldable pub buffer_size_refusal : List ℕ → ℕ → List ℕ → ℕ
buffer_size_refusal table d trace = table_refusal table or_else delay_refusal d or_else counted_refusal trace

-- The smallest delay limit: table, 7, 10, 8.
unfoldable pub delay_size_refusal : List ℕ → ℕ → List ℕ → ℕ
delay_size_refusal table q trace = table_refusal table or_else buffer_refusal q or_else counted_refusal trace

-- the smallest limit and what it loses, where it is one of 0 to the most; else the most, and what it loses
unfoldable pub sized : Bool → ℕ → (ℕ → ℕ) → ℕ → SizeAnswer
sized true most loss limit = Found (record { limit = limit; lost = loss limit })
sized false most loss limit = NotFound (record { limit = most; lost = loss most })

-- the answer that a number stands for, 0 being none
unfoldable pub size_answer : ℕ → ℕ → (ℕ → ℕ) → ℕ → SizeAnswer
size_answer zero most loss N = sized (leb (smallest most loss N) most) most loss (smallest most loss N)
size_answer (suc k) most loss N = Refused (suc k)
