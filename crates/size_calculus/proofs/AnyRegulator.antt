-- Under demand 3's premise the smallest limit is the one that any regulator needs: with a smaller one nobody loses as few.
use mathlib.Core.List.{List}
use Prim.Native.Nat.{ℕ, ◌≤◌}
use native.Mathlib.Omega.{arith}
use lib.ListN.{length}
use Rattle.calculus.specs.Numbers.Limit.{Limit, at_most}
use Rattle.calculus.specs.Envelopes.Envelope.{windows, ClosedEnvelope}
use Rattle.calculus.specs.Regulators.Clipper.{admitted}
use Rattle.calculus.specs.Regulators.Regulator.{departed, lost}
use Rattle.calculus.specs.Regulators.Trace.{arrivals}
use Rattle.calculus.specs.Regulators.Rows.{envelope_of, lost_by}
use Rattle.calculus.specs.Losses.Permitted.{Quiet}
use Rattle.calculus.specs.Losses.AlsoPermitted.{PermittedOn}
use Rattle.calculus.proofs.Losses.LowestLoss.{ours_permitted, loss-least}
use Rattle.size_calculus.specs.Smallest.{SmallestBuffer, SmallestDelay, loss_with_buffer, loss_with_delay, loss_of, BufferNeeded, DelayNeeded}

module _ (table : List ℕ) (closed : ClosedEnvelope (windows (envelope_of table))) (trace : List ℕ) where
  abbrev F : ℕ → ℕ → ℕ
  F = windows (envelope_of table)

  -- Our regulator's pair is permitted, and loses what is defined.
  ours_loses : (d q : Limit) (N : ℕ) → lost_by table d q trace (length trace) ≤ N → (u v : ℕ → ℕ) × PermittedOn table d q trace u v × (loss_of trace u ≤ N)
  unfolding PermittedOn lost_by lost loss_of
  ours_loses d q N few = (admitted F d q (arrivals trace), departed F d q (arrivals trace), ours_permitted F closed d q (arrivals trace) (length trace), few)

  -- Under the premise nobody loses fewer.
  pub nobody_loses_fewer : (d q : Limit) → Quiet d (arrivals trace) (length trace) → (u v : ℕ → ℕ) → PermittedOn table d q trace u v
      → lost_by table d q trace (length trace) ≤ loss_of trace u
  unfolding PermittedOn lost_by loss_of
  nobody_loses_fewer d q quiet u v permitted = loss-least F closed d q (arrivals trace) (length trace) u v permitted quiet (length trace) (omega arith)

  pub buffer_fewest : (d : Limit) (q : ℕ) → Quiet d (arrivals trace) (length trace) → (u v : ℕ → ℕ) → PermittedOn table d (at_most q) trace u v
      → loss_with_buffer table d trace q ≤ loss_of trace u
  unfolding loss_with_buffer
  buffer_fewest d q = nobody_loses_fewer d (at_most q)

  pub delay_fewest : (q : Limit) (d : ℕ) → Quiet (at_most d) (arrivals trace) (length trace) → (u v : ℕ → ℕ) → PermittedOn table (at_most d) q trace u v
      → loss_with_delay table q trace d ≤ loss_of trace u
  unfolding loss_with_delay
  delay_fewest q d = nobody_loses_fewer (at_most d) q

  -- The smallest buffer limit is the buffer that any regulator needs ..
  pub buffer_needed : (d : Limit) (N q : ℕ) → SmallestBuffer table d trace N q → BufferNeeded table d trace N q
  buffer_needed d N q this =
      record {
        one_does = ours_loses d (at_most q) N (unfold loss_with_buffer in this.loses);
        nobody_smaller = λ quiet n p u v permitted. omega (arith, this.none_smaller n p, buffer_fewest d n quiet u v permitted);
      }

  -- .. and the smallest delay limit the delay.
  pub delay_needed : (q : Limit) (N d : ℕ) → SmallestDelay table q trace N d → DelayNeeded table q trace N d
  delay_needed q N d this =
      record {
        one_does = ours_loses (at_most d) q N (unfold loss_with_delay in this.loses);
        nobody_smaller = λ n p quiet u v permitted. omega (arith, this.none_smaller n p, delay_fewest q n quiet u v permitted);
      }
