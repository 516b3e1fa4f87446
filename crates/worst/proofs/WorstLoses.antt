-- Request 2.13 from the contract alone: the list is the trace that loses most, and the loss is what the whole-trace run drops on it.
use mathlib.Core.Path.{◌≡◌, refl, sym, ap, ◌∙◌}
use mathlib.Core.List.{List}
use Prim.Native.Nat.{ℕ, zero, suc}
use native.Mathlib.Omega.{arith}
use lib.ListN.{length}
use Rattle.calculus.proofs.Numbers.Distinct.{zero_one}
use Rattle.calculus.specs.Regulators.Rows.{lost_by}
use Rattle.calculus.specs.Regulators.Regulator.{lost}
use Rattle.worst_calculus.specs.WorstTrace.{LosesMost, worst_trace, worst_loss}
use Rattle.worst_calculus.proofs.WorstTrace.{worst-asked, worst_only, worst_told, worst_small}
use Rattle.orders.specs.Answered.{verdict_of, unless_refused}
use Rattle.orders.proofs.Answered.{refused_list}
use Rattle.orders.specs.Verdict.{Accepted}
use Rattle.refusals.specs.WholeTrace.{run_refusal}
use Rattle.refusals.specs.Limits.{delay_limit, buffer_limit}
use Rattle.trace.proofs.RunLowestLoss.{run-lowest-loss}
use Rattle.worst.specs.Worst.{WorstAnswer}
use Rattle.worst.specs.Worst as answer
use Rattle.worst.specs.Worst.{worst_refusal, worst_answer, WorstTold}
use Rattle.worst.specs.WorstLoses.{WorstLoses}
use Rattle.worst.proofs.WorstWritten.{worst_runs, worst_long}

-- A loss that is told has no number.
loss_told : (k loss v : ℕ) → answer.Loss v ≡ worst_answer k loss → (k ≡ 0) × (v ≡ loss)
unfolding worst_answer
loss_told zero loss v e = (refl, cc)
loss_told (suc k) loss v e = absurd (zero_one cc)

-- A number other than 0 leaves the list as it was.
pub worst_left : (table : List ℕ) (d q n p N : ℕ) (list : List ℕ) (answer : WorstAnswer) (list' : List ℕ) → WorstTold table d q n p N list answer list'
    → (worst_refusal table d q n p (length list) ≡ 0 → ⊥) → list' ≡ list
worst_left table d q n p N list answer list' told some = told.written ∙ sym (refused_list _ _ some refl _ list)

-- The theorem.
pub worst_loses : (table : List ℕ) (d q n p N : ℕ) (list : List ℕ) (loss : ℕ) (trace : List ℕ) → WorstTold table d q n p N list (answer.Loss loss) trace
    → WorstLoses table d q n p N trace loss
unfolding unless_refused verdict_of worst_loss lost_by lost
worst_loses table d q n p N list loss trace answered =
    let (none, same) = loss_told _ _ loss answered.told in
    let whole : trace ≡ worst_trace n p N = rw none at answered.written in
    let asked : LosesMost table (delay_limit d) (buffer_limit q) n p N trace = rw whole (worst-asked table (delay_limit d) (buffer_limit q) n p N) in
    let told : loss ≡ lost_by table (delay_limit d) (buffer_limit q) trace n = rw whole same in
    record {
      asked = asked;
      only = λ other theirs. worst_only table (delay_limit d) (buffer_limit q) n p N other theirs ∙ sym whole;
      told = told;
      most = λ other limits. rw same (worst_told table (delay_limit d) (buffer_limit q) n p N other limits);
      small = rw same (worst_small table (delay_limit d) (buffer_limit q) n p N);
      dropped = λ ins drops outs ins' drops' outs' verdict l1 l2 l3 ran.
          let long : length trace ≡ n = asked.within.long in
          let runs : run_refusal table d q trace (length trace) (length trace) (length trace) ≡ 0 = worst_runs table d q n p N list none trace (whole ∙ ap (λ (m : ℕ). worst_trace m p N) (sym (worst_long table d q n p N list none))) in
          let fits : run_refusal table d q trace (length ins) (length drops) (length outs) ≡ 0 = rw (l1 ∙ sym long, l2 ∙ sym long, l3 ∙ sym long) runs in
          let accepted : verdict ≡ Accepted = ran.answered ∙ ap verdict_of fits in
          let lowest = run-lowest-loss table d q trace ins drops outs verdict ins' drops' outs' ran accepted in
          (accepted, lowest.dropped_total n (omega arith) ∙ sym told);
    }
