-- The envelope's question (document 01, "The envelope").
use Rattle.std.specs.Prelude.{ℕ, ltb, Result, Ok, Err}
use Rattle.calculus.specs.Numbers.Sizes.{most_asked}
use Rattle.orders.specs.Refusal.{pick}
use Rattle.envelope.specs.declared.table.Envelope.{Envelope}
use Rattle.envelope.specs.Envelope.{bound, piece_at}
use Rattle.question.specs.declared.question.WindowBound.{WindowBound}
use Rattle.orders.specs.declared.refusal.Refusal.{Refusal}
use Rattle.orders.specs.Answered.{refusal_number}

-- what a question is answered
pub data Answer : Type 0 where
  Bound : WindowBound → Answer
  Refused : ℕ → Answer

-- the answer that a call gives
unfoldable pub answer_given : Result WindowBound Refusal → Answer
answer_given (Ok given) = Bound given
answer_given (Err refusal) = Refused (refusal_number refusal)

-- f at a window, and its first piece there
unfoldable pub window_bound : Envelope → ℕ → WindowBound
window_bound e window = record { packets = record { 0 = bound e window }; piece = record { 0 = piece_at e window } }

-- The question: 5 for a window above 4,160, else f and its first piece.
unfoldable pub asked : Envelope → ℕ → Answer
asked e window = pick (ltb most_asked window) (Refused 5) (Bound (window_bound e window))
