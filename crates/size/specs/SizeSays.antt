-- All that is claimed of a limit that is answered and of the loss beside it.
use Rattle.std.specs.Prelude.{◌≡◌, List, ℕ, ◌≤◌, ◌<◌, length}
use Rattle.calculus.specs.Numbers.Limit.{at_most}
use Rattle.calculus.specs.Numbers.Sizes.{most_packets, most_delay}
use Rattle.calculus.specs.Regulators.Trace.{arrivals}
use Rattle.calculus.specs.Losses.Permitted.{Quiet}
use Rattle.calculus.specs.Losses.AlsoPermitted.{PermittedOn}
use Rattle.size_calculus.specs.Smallest.{SmallestBuffer, SmallestDelay, NoneDoes, BufferNeeded, DelayNeeded, loss_with_buffer, loss_with_delay, loss_of}
use Rattle.refusals.specs.Limits.{delay_limit, buffer_limit}

-- a buffer limit that is found
pub record BufferFound (table : List ℕ) (d : ℕ) (trace : List ℕ) (N limit lost : ℕ) : Type 0 where
  -- It is the smallest of 0 to 1,000,000 at which at most N are lost by the last slot, and no other is.
  pub asked : SmallestBuffer table (delay_limit d) trace N limit
  pub only : (other : ℕ) → SmallestBuffer table (delay_limit d) trace N other → other ≡ limit
  -- What is told is lost with it.
  pub told : lost ≡ loss_with_buffer table (delay_limit d) trace limit
  -- It is the buffer that any regulator needs.
  pub needed : BufferNeeded table (delay_limit d) trace N limit
  -- Under demand 3's premise nobody loses fewer than ours with any buffer limit: it is known what one packet less costs.
  pub fewest : Quiet (delay_limit d) (arrivals trace) (length trace) → (n : ℕ) (u v : ℕ → ℕ) → PermittedOn table (delay_limit d) (at_most n) trace u v
      → loss_with_buffer table (delay_limit d) trace n ≤ loss_of trace u

-- where none is found
pub record BufferNotFound (table : List ℕ) (d : ℕ) (trace : List ℕ) (N limit lost : ℕ) : Type 0 where
  -- The limit is 1,000,000, and what is told is lost with it.
  pub greatest : limit ≡ most_packets
  pub told : lost ≡ loss_with_buffer table (delay_limit d) trace most_packets
  -- Every buffer limit up to it loses more than N, and under demand 3's premise whoever has it.
  pub none_does : NoneDoes most_packets (loss_with_buffer table (delay_limit d) trace) N
  pub nobody : Quiet (delay_limit d) (arrivals trace) (length trace) → (n : ℕ) → n ≤ most_packets → (u v : ℕ → ℕ)
      → PermittedOn table (delay_limit d) (at_most n) trace u v → N < loss_of trace u

-- a delay limit that is found
pub record DelayFound (table : List ℕ) (q : ℕ) (trace : List ℕ) (N limit lost : ℕ) : Type 0 where
  -- It is the smallest of 0 to 64 at which at most N are lost by the last slot, and no other is.
  pub asked : SmallestDelay table (buffer_limit q) trace N limit
  pub only : (other : ℕ) → SmallestDelay table (buffer_limit q) trace N other → other ≡ limit
  -- What is told is lost with it.
  pub told : lost ≡ loss_with_delay table (buffer_limit q) trace limit
  -- It is the delay that any regulator needs.
  pub needed : DelayNeeded table (buffer_limit q) trace N limit
  -- Nobody loses fewer than ours with a delay limit of as many slots as the trace has empty ones at its end, or of fewer.
  pub fewest : (n : ℕ) → Quiet (at_most n) (arrivals trace) (length trace) → (u v : ℕ → ℕ) → PermittedOn table (at_most n) (buffer_limit q) trace u v
      → loss_with_delay table (buffer_limit q) trace n ≤ loss_of trace u

-- where none is found
pub record DelayNotFound (table : List ℕ) (q : ℕ) (trace : List ℕ) (N limit lost : ℕ) : Type 0 where
  -- The limit is 64, and what is told is lost with it.
  pub greatest : limit ≡ most_delay
  pub told : lost ≡ loss_with_delay table (buffer_limit q) trace most_delay
  -- Every delay limit up to it loses more than N, and under demand 3's premise whoever has it.
  pub none_does : NoneDoes most_delay (loss_with_delay table (buffer_limit q) trace) N
  pub nobody : (n : ℕ) → n ≤ most_delay → Quiet (at_most n) (arrivals trace) (length trace) → (u v : ℕ → ℕ)
      → PermittedOn table (at_most n) (buffer_limit q) trace u v → N < loss_of trace u
