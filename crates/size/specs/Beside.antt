-- The limit that is kept while the other one is looked for, so that one search serves both.
use Rattle.std.specs.Prelude.{List, ℕ}
use Rattle.calculus.specs.Numbers.Sizes.{most_packets, most_delay}
use Rattle.size_calculus.specs.Smallest.{loss_with_buffer, loss_with_delay}
use Rattle.refusals.specs.Limits.{delay_limit, buffer_limit, delay_refusal, buffer_refusal}
use Rattle.size.specs.Size.{buffer_size_refusal, delay_size_refusal, size_answer}
use Rattle.size.specs.declared.Kept.{Kept}
use Rattle.size.specs.declared.Kept.TheVariants as kept
use Rattle.size.specs.Size.{SizeAnswer}

-- 6 for a delay limit, 7 for a buffer limit
unfoldable pub kept_refusal : Kept → ℕ
kept_refusal (kept.Delay d) = delay_refusal d.0
kept_refusal (kept.Buffer q) = buffer_refusal q.0

unfoldable pub beside_refusal : List ℕ → Kept → List ℕ → ℕ
beside_refusal table (kept.Delay d) trace = buffer_size_refusal table d.0 trace
beside_refusal table (kept.Buffer q) trace = delay_size_refusal table q.0 trace

-- the greatest limit that is looked at: 1,000,000 packets, or 64 slots
unfoldable pub greatest_beside : Kept → ℕ
greatest_beside (kept.Delay d) = most_packets
greatest_beside (kept.Buffer q) = most_delay

-- what is lost by the last slot with a limit of so many
unfoldable pub loss_beside : List ℕ → Kept → List ℕ → ℕ → ℕ
loss_beside table (kept.Delay d) trace = loss_with_buffer table (delay_limit d.0) trace
loss_beside table (kept.Buffer q) trace = loss_with_delay table (buffer_limit q.0) trace

-- what is answered where at most N may be lost
unfoldable pub size_beside : List ℕ → Kept → List ℕ → ℕ → SizeAnswer
size_beside table beside trace N = size_answer (beside_refusal table beside trace) (greatest_beside beside) (loss_beside table beside trace) N
