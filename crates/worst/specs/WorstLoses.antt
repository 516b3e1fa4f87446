-- All that is claimed of a trace that loses most and of the loss that is told (document 02, request 2.13).
use Rattle.std.specs.Prelude.{◌≡◌, List, ℕ, ◌≤◌, length}
use Rattle.calculus.specs.Regulators.Trace.{sum_to}
use Rattle.calculus.specs.Regulators.Rows.{lost_by}
use Rattle.worst_calculus.specs.WorstTrace.{WithinLimits, LosesMost}
use Rattle.orders.specs.Verdict.{Verdict, Accepted}
use Rattle.refusals.specs.Limits.{delay_limit, buffer_limit}
use Rattle.trace.specs.WholeTrace.{Ran}

pub record WorstLoses (table : List ℕ) (d q n p N : ℕ) (trace : List ℕ) (loss : ℕ) : Type 0 where
  -- The trace is the one asked for, and no other is.
  pub asked : LosesMost table (delay_limit d) (buffer_limit q) n p N trace
  pub only : (other : List ℕ) → LosesMost table (delay_limit d) (buffer_limit q) n p N other → other ≡ trace
  -- The loss is its loss by slot n; no trace within the limits loses more, and it is at most N.
  pub told : loss ≡ lost_by table (delay_limit d) (buffer_limit q) trace n
  pub most : (other : List ℕ) → WithinLimits n p N other → lost_by table (delay_limit d) (buffer_limit q) other n ≤ loss
  pub small : loss ≤ N
  -- The whole-trace run, lent lists of n numbers, accepts the trace, and the loss is what it drops.
  pub dropped : (ins drops outs ins' drops' outs' : List ℕ) (verdict : Verdict) → length ins ≡ n → length drops ≡ n → length outs ≡ n
      → Ran table d q trace ins drops outs verdict ins' drops' outs' → (verdict ≡ Accepted) × (sum_to drops' n ≡ loss)
