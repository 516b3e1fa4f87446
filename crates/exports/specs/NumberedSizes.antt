-- What the smallest limits answer by number.
use Rattle.std.specs.Prelude.{List, ℕ}
use Rattle.calculus.specs.Numbers.Limit.{delay_limit, buffer_limit}
use Rattle.calculus.specs.Numbers.Sizes.{most_packets, most_delay}
use Rattle.size_calculus.specs.Smallest.{loss_with_buffer, loss_with_delay}
use Rattle.size.specs.Size.{buffer_size_refusal, delay_size_refusal, size_answer}
use Rattle.size.specs.Size.{SizeAnswer}
use Rattle.size.specs.Size as size
use Rattle.exports.specs.declared.sizing.Size.{Size}

-- the smallest limit and what it loses; or the greatest, which still loses more; or the number that refuses
unfoldable pub size_of : SizeAnswer → Size
size_of (size.Found at) = record { number = 0; found = 1; limit = at.limit; lost = at.lost }
size_of (size.NotFound at) = record { number = 0; found = 0; limit = at.limit; lost = at.lost }
size_of (size.Refused n) = record { number = n; found = 0; limit = 0; lost = 0 }

-- for a table, a delay limit, a trace and the most that may be lost
unfoldable pub buffer_size_of : List ℕ → ℕ → List ℕ → ℕ → Size
buffer_size_of table d trace N = size_of (size_answer (buffer_size_refusal table d trace) most_packets (loss_with_buffer table (delay_limit d) trace) N)

-- for a table, a buffer limit, a trace and the most that may be lost
unfoldable pub delay_size_of : List ℕ → ℕ → List ℕ → ℕ → Size
delay_size_of table q trace N = size_of (size_answer (delay_size_refusal table q trace) most_delay (loss_with_delay table (buffer_limit q) trace) N)
