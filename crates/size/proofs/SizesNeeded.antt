-- What an answered size says of anyone: whoever loses no more than asked has more than the greatest limit where none is found, and nobody
-- loses fewer than ours with any limit where one is.
use mathlib.Core.List.{List}
use Prim.Native.Nat.{ℕ, ◌≤◌, ◌<◌}
use native.Mathlib.Decide.{dec_le}
use native.Mathlib.Omega.{arith}
use lib.ListN.{length}
use Rattle.calculus.specs.Numbers.Limit.{at_most, delay_limit, buffer_limit}
use Rattle.calculus.specs.Regulators.Trace.{arrivals}
use Rattle.calculus.specs.Losses.Permitted.{Quiet}
use Rattle.calculus.specs.Losses.AlsoPermitted.{PermittedOn}
use Rattle.size_calculus.specs.Smallest.{loss_with_buffer, loss_with_delay, loss_of}
use Rattle.size.specs.SizeSays.{BufferFound, BufferNotFound, DelayFound, DelayNotFound}

module _ (table : List ℕ) (trace : List ℕ) (N limit lost : ℕ) (u v : ℕ → ℕ) where
  pub buffer_beyond : (d : ℕ) → BufferNotFound table d trace N limit lost → Quiet (delay_limit d) (arrivals trace) (length trace) → (n : ℕ)
      → PermittedOn table (delay_limit d) (at_most n) trace u v → loss_of trace u ≤ N → 1000000 < n
  buffer_beyond d none quiet n permitted few =
      elim (dec_le n 1000000) [
        | yes p ↦ absurd (omega (arith, none.nobody quiet n p u v permitted))
        | no p ↦ omega arith
      ]

  pub delay_beyond : (q : ℕ) → DelayNotFound table q trace N limit lost → (n : ℕ) → Quiet (at_most n) (arrivals trace) (length trace)
      → PermittedOn table (at_most n) (buffer_limit q) trace u v → loss_of trace u ≤ N → 64 < n
  delay_beyond q none n quiet permitted few =
      elim (dec_le n 64) [
        | yes p ↦ absurd (omega (arith, none.nobody n p quiet u v permitted))
        | no p ↦ omega arith
      ]

  pub buffer_no_fewer : (d : ℕ) → BufferFound table d trace N limit lost → Quiet (delay_limit d) (arrivals trace) (length trace) → (n : ℕ)
      → PermittedOn table (delay_limit d) (at_most n) trace u v → loss_of trace u < loss_with_buffer table (delay_limit d) trace n → ⊥
  buffer_no_fewer d found quiet n permitted fewer = absurd (omega (arith, found.fewest quiet n u v permitted))

  pub delay_no_fewer : (q : ℕ) → DelayFound table q trace N limit lost → (n : ℕ) → Quiet (at_most n) (arrivals trace) (length trace)
      → PermittedOn table (at_most n) (buffer_limit q) trace u v → loss_of trace u < loss_with_delay table (buffer_limit q) trace n → ⊥
  delay_no_fewer q found n quiet permitted fewer = absurd (omega (arith, found.fewest n quiet u v permitted))
