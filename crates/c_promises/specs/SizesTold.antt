-- What C may conclude from a size that it is told, whatever it asked for.
use Rattle.std.specs.Prelude.{◌≡◌, List, ℕ}
use Rattle.calculus.specs.Numbers.Limit.{delay_limit, buffer_limit}
use Rattle.size_calculus.specs.Smallest.{SmallestBuffer, SmallestDelay}
use Rattle.exports.specs.NumberedSizes.{buffer_size_of, delay_size_of}
use Rattle.exports.specs.declared.sizing.Size.{Size}
use Rattle.size.specs.SizeSays.{BufferFound, BufferNotFound, DelayFound, DelayNotFound}

-- all but the number is 0
abbrev pub Blank : Size → Type 0
Blank told = (told.found ≡ 0) × (told.limit ≡ 0) × (told.lost ≡ 0)

-- for a table, a trace and the most that may be lost
pub record SizesTold (table trace : List ℕ) (N : ℕ) : Type 0 where
  -- Number 0 and found 1: the smallest buffer limit beside d, and what it loses.
  pub buffer : (d : ℕ) → (buffer_size_of table d trace N).number ≡ 0 → (buffer_size_of table d trace N).found ≡ 1
      → BufferFound table d trace N (buffer_size_of table d trace N).limit (buffer_size_of table d trace N).lost
  -- Number 0 and found 0: none up to 1,000,000 does.
  pub no_buffer : (d : ℕ) → (buffer_size_of table d trace N).number ≡ 0 → (buffer_size_of table d trace N).found ≡ 0
      → BufferNotFound table d trace N (buffer_size_of table d trace N).limit (buffer_size_of table d trace N).lost
  -- The same of the delay limit beside q.
  pub delay : (q : ℕ) → (delay_size_of table q trace N).number ≡ 0 → (delay_size_of table q trace N).found ≡ 1
      → DelayFound table q trace N (delay_size_of table q trace N).limit (delay_size_of table q trace N).lost
  pub no-delay : (q : ℕ) → (delay_size_of table q trace N).number ≡ 0 → (delay_size_of table q trace N).found ≡ 0
      → DelayNotFound table q trace N (delay_size_of table q trace N).limit (delay_size_of table q trace N).lost
  -- Where there is one, found is 1.
  pub buffer_there : (d q : ℕ) → (buffer_size_of table d trace N).number ≡ 0 → SmallestBuffer table (delay_limit d) trace N q → (buffer_size_of table d trace N).found ≡ 1
  pub delay_there : (q d : ℕ) → (delay_size_of table q trace N).number ≡ 0 → SmallestDelay table (buffer_limit q) trace N d → (delay_size_of table q trace N).found ≡ 1
  -- A number comes with 0s.
  pub buffer_refused : (d : ℕ) → ((buffer_size_of table d trace N).number ≡ 0 → ⊥) → Blank (buffer_size_of table d trace N)
  pub delay_refused : (q : ℕ) → ((delay_size_of table q trace N).number ≡ 0 → ⊥) → Blank (delay_size_of table q trace N)
