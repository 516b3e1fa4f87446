-- What a whole trace loses by its last slot.
use Rattle.std.specs.Prelude.{List, ℕ, zero, suc, length}
use Rattle.calculus.specs.Regulators.Rows.{lost_by}
use Rattle.refusals.specs.Limits.{delay_limit, buffer_limit}
use Rattle.refusals.specs.WholeTrace.{run_refusal}

-- a loss, or 0 where the number is one
unfoldable pub loss_unless : ℕ → ℕ → ℕ
loss_unless zero loss = loss
loss_unless (suc number) loss = 0

-- theorem 5.1's loss of a trace, with lists as long as it is; 0 where the run refuses it
unfoldable pub trace_loss : List ℕ → ℕ → ℕ → List ℕ → ℕ
trace_loss table d q trace =
    loss_unless (run_refusal table d q trace (length trace) (length trace) (length trace)) (lost_by table (delay_limit d) (buffer_limit q) trace (length trace))
