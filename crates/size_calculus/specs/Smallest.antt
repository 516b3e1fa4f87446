-- The smallest buffer limit, and the smallest delay limit, at which no more than N packets of a trace are lost by its last slot.
use Rattle.std.specs.Prelude.{List, ℕ, ◌-◌, ◌≤◌, ◌<◌, leb, length}
use Rattle.calculus.specs.Numbers.Limit.{Limit, at_most}
use Rattle.calculus.specs.Numbers.Sizes.{most_packets, most_delay}
use Rattle.calculus.specs.Numbers.FirstWhere.{first_where}
use Rattle.calculus.specs.Regulators.Clipper.{arrived}
use Rattle.calculus.specs.Regulators.Trace.{arrivals}
use Rattle.calculus.specs.Regulators.Rows.{lost_by}
use Rattle.calculus.specs.Losses.Permitted.{Quiet}
use Rattle.calculus.specs.Losses.AlsoPermitted.{PermittedOn}

-- what is lost by the last slot with a buffer limit of so many packets
unfoldable pub loss_with_buffer : List ℕ → Limit → List ℕ → ℕ → ℕ
loss_with_buffer table d trace q = lost_by table d (at_most q) trace (length trace)

-- what is lost by the last slot with a delay limit of so many slots
unfoldable pub loss_with_delay : List ℕ → Limit → List ℕ → ℕ → ℕ
loss_with_delay table q trace d = lost_by table (at_most d) q trace (length trace)

-- the smallest limit of 0 to the most at which no more than N are lost: it loses at most N, and every smaller one loses more
pub record Smallest (most : ℕ) (loss : ℕ → ℕ) (N limit : ℕ) : Type 0 where
  pub within : limit ≤ most
  pub loses : loss limit ≤ N
  pub none_smaller : (n : ℕ) → n < limit → N < loss n

-- where there is none: every limit of 0 to the most loses more
unfoldable pub NoneDoes : ℕ → (ℕ → ℕ) → ℕ → Type 0
NoneDoes most loss N = (n : ℕ) → n ≤ most → N < loss n

-- the smallest buffer limit, of 0 to 1,000,000
abbrev pub SmallestBuffer : List ℕ → Limit → List ℕ → ℕ → ℕ → Type 0
SmallestBuffer table d trace N q = Smallest most_packets (loss_with_buffer table d trace) N q

-- the smallest delay limit, of 0 to 64
abbrev pub SmallestDelay : List ℕ → Limit → List ℕ → ℕ → ℕ → Type 0
SmallestDelay table q trace N d = Smallest most_delay (loss_with_delay table q trace) N d

-- The same as a number: the first limit from 0 on that loses at most N, and one more than the most where there is none.
unfoldable pub smallest : ℕ → (ℕ → ℕ) → ℕ → ℕ
smallest most loss N = first_where 0 most (λ n. leb (loss n) N)

-- what a pair that admits u loses of the trace by its last slot
unfoldable pub loss_of : List ℕ → (ℕ → ℕ) → ℕ
loss_of trace u = arrived (arrivals trace) (length trace) - u (length trace)

-- the buffer that any regulator needs
pub record BufferNeeded (table : List ℕ) (d : Limit) (trace : List ℕ) (N q : ℕ) : Type 0 where
  -- Some permitted pair loses at most N with it.
  pub one_does : (u v : ℕ → ℕ) × PermittedOn table d (at_most q) trace u v × (loss_of trace u ≤ N)
  -- Where d is none, or the trace ends in at least d slots without arrivals, every permitted pair of a smaller one loses more.
  pub nobody_smaller : Quiet d (arrivals trace) (length trace) → (n : ℕ) → n < q → (u v : ℕ → ℕ) → PermittedOn table d (at_most n) trace u v → N < loss_of trace u

-- the delay that any regulator needs
pub record DelayNeeded (table : List ℕ) (q : Limit) (trace : List ℕ) (N d : ℕ) : Type 0 where
  -- Some permitted pair loses at most N with it.
  pub one_does : (u v : ℕ → ℕ) × PermittedOn table (at_most d) q trace u v × (loss_of trace u ≤ N)
  -- Where the trace ends in at least n slots without arrivals, n being smaller, every permitted pair of the delay limit n loses more.
  pub nobody_smaller : (n : ℕ) → n < d → Quiet (at_most n) (arrivals trace) (length trace) → (u v : ℕ → ℕ) → PermittedOn table (at_most n) q trace u v → N < loss_of trace u
