-- The loss of a trace that the run accepts is theorem 5.1's.
use mathlib.Core.Path.{◌≡◌, refl, sym, ◌∙◌}
use mathlib.Core.List.{List}
use Prim.Native.Nat.{ℕ, zero, suc}
use lib.ListN.{length}
use Rattle.calculus.specs.Regulators.Rows.{lost_by}
use Rattle.refusals.specs.Limits.{delay_limit, buffer_limit}
use Rattle.refusals.specs.WholeTrace.{run_refusal}
use Rattle.trace_loss.specs.TraceLoss.{loss_unless, trace_loss}

module _ (table : List ℕ) (d q : ℕ) (trace : List ℕ) where
  pub loss-accepted : run_refusal table d q trace (length trace) (length trace) (length trace) ≡ 0
      → trace_loss table d q trace ≡ lost_by table (delay_limit d) (buffer_limit q) trace (length trace)
  unfolding trace_loss loss_unless
  loss-accepted none = rw none refl

  pub loss_told : (v : ℕ) → run_refusal table d q trace (length trace) (length trace) (length trace) ≡ 0
      → v ≡ lost_by table (delay_limit d) (buffer_limit q) trace (length trace) → v ≡ trace_loss table d q trace
  loss_told v none e = e ∙ sym (loss-accepted none)

  pub loss_refused : (k : ℕ) → k ≡ run_refusal table d q trace (length trace) (length trace) (length trace) → (k ≡ 0 → ⊥) → 0 ≡ trace_loss table d q trace
  unfolding trace_loss loss_unless
  loss_refused zero e some = absurd (some refl)
  loss_refused (suc k) e some = rw (← e) refl
