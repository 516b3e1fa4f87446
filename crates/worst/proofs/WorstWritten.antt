-- The trace that loses most: written place by place, run, and its loss summed.
use Rattle.std.proofs.Common.{Result, Err}
use mathlib.Core.Path.{◌≡◌, refl, ap, ap₂, ◌∙◌}
use mathlib.Core.Bool.{not}
use mathlib.Core.List.{List}
use Prim.Native.Nat.{ℕ, zero, suc, ◌+◌, ◌-◌, ◌*◌, ◌≤◌, ◌<◌, min}
use native.Mathlib.Decide.{dec_le}
use native.Mathlib.Omega.{arith}
use lib.Dec.{ltb, eqb}
use lib.ListN.{length, get_or, take, set, length-set, get_or-eq_default}
use borrow.Author.Tests.{ltb-false, le-ltb, eqb-true, eq-eqb, not-false}
use Rattle.refusals.proofs.Measured.{counts_none}
use Rattle.calculus.specs.Numbers.Lists.{list_of}
use Rattle.calculus.specs.Regulators.Rows.{lost_by}
use Rattle.worst_calculus.specs.WorstTrace.{worst_trace, worst_loss}
use Rattle.calculus.proofs.Numbers.Lists.{list_of_filled, list_of_full}
use Rattle.worst_calculus.proofs.WorstTrace.{worst_at, length_worst}
use Rattle.orders.specs.Refusal.{◌when◌, ◌or_else◌}
use Rattle.orders.proofs.Refusals.{or_else_none, when_none}
use Rattle.refusals.specs.Limits.{delay_limit, buffer_limit, set_up_refusal}
use Rattle.refusals.specs.Lengths.{length_refusal, lists_refusal}
use Rattle.refusals.specs.WholeTrace.{trace_refusal, run_refusal}
use Rattle.orders.specs.Answered.{unless_refused}
use Rattle.trace_loss.specs.TraceLoss.{trace_loss}
use Rattle.trace_loss.proofs.TraceLoss.{loss-accepted}
use Rattle.orders.specs.declared.refusal.Refusal.{Refusal}
use Rattle.orders.specs.Answered.{refusal_number, number_given}
use Rattle.orders.proofs.Given.{refusal_numbered, given_number}
use Rattle.worst.specs.Worst.{most_refusal, worst_refusal, worst_answer, worst_given, WorstTold}
use Rattle.worst.specs.Worst as answer

-- The list written up to place k, and what is left of N.
pub record Writing (p N : ℕ) (n : ℕ) (list : List ℕ) (left k : ℕ) : Type 0 where
  pub long : length list ≡ n
  pub within : k ≤ n
  pub rest : left ≡ N - p * k
  pub done : take k list ≡ list_of (λ k. min p (N - p * k)) k

module _ (p N : ℕ) where
  pub writing-first : (list : List ℕ) → Writing p N (length list) list N 0
  unfolding list_of
  writing-first list = record { long = refl; within = omega arith; rest = omega arith; done = refl }

  pub writing_next : (n : ℕ) (list : List ℕ) (left k v : ℕ) → Writing p N n list left k → k < length list → v ≡ min p left → Writing p N n (set list k v) (left - v) (k + 1)
  writing_next n list left k v writing q e =
      let more : p * (k + 1) ≡ p * k + p = omega arith in
      record {
        long = length-set list k v ∙ writing.long;
        within = omega (arith, writing.long);
        rest = omega (arith, writing.rest);
        done = list_of_filled (λ k. min p (N - p * k)) list k v q writing.done (e ∙ ap (min p) writing.rest);
      }

  pub writing-last : (n : ℕ) (list : List ℕ) (left k : ℕ) → Writing p N n list left k → length list ≤ k → list ≡ worst_trace n p N
  unfolding worst_trace
  writing-last n list left k writing q = list_of_full _ list n k writing.within (omega (arith, writing.long)) writing.long writing.done

-- A trace of few arrivals in at most 4,096 slots is run.
pub run_fine : (table : List ℕ) (d q : ℕ) (trace : List ℕ) (ins drops outs : ℕ) → set_up_refusal table d q ≡ 0 → length trace ≤ 4096 → ((k : ℕ) → get_or trace k 0 ≤ 1000000)
    → ins ≡ length trace → drops ≡ length trace → outs ≡ length trace → run_refusal table d q trace ins drops outs ≡ 0
unfolding run_refusal trace_refusal length_refusal lists_refusal ◌when◌ ◌or_else◌
run_fine table d q trace ins drops outs fine short few e1 e2 e3 =
    rw (fine, le-ltb 4096 (length trace) short, eq-eqb ins (length trace) e1, eq-eqb drops (length trace) e2, eq-eqb outs (length trace) e3) (counts_none trace few)

module _ (table : List ℕ) (d q n p N : ℕ) (list : List ℕ) where
  abbrev number : ℕ
  number = worst_refusal table d q n p (length list)

  accepted : number ≡ 0 → (set_up_refusal table d q ≡ 0) × (n ≤ 4096) × (length list ≡ n) × (p ≤ 1000000)
  unfolding worst_refusal length_refusal lists_refusal most_refusal
  accepted e =
      let (set, others) = or_else_none (set_up_refusal table d q) _ e in
      let (short, later) = or_else_none (10 when ltb 4096 n) _ others in
      let (long, few) = or_else_none (11 when not (eqb (length list) n)) _ later in (
        set,
        ltb-false 4096 n (when_none 9 (ltb 4096 n) short),
        eqb-true (length list) n (not-false (eqb (length list) n) (when_none 10 (not (eqb (length list) n)) long)),
        ltb-false 1000000 p (when_none 7 (ltb 1000000 p) few),
      )

  pub worst_long : number ≡ 0 → length list ≡ n
  worst_long none = (accepted none).2

  -- The written trace is run.
  pub worst_runs : number ≡ 0 → (list' : List ℕ) → list' ≡ worst_trace (length list) p N
      → run_refusal table d q list' (length list') (length list') (length list') ≡ 0
  worst_runs none list' e =
      let (set, short, long, few) = accepted none in
      let size : length list' ≡ length list = ap length e ∙ length_worst (length list) p N in
      run_fine table d q list' _ _ _ set (omega arith)
      (λ k.
      elim (dec_le (suc k) (length list)) [
        | yes r ↦ omega (arith, ap (λ (l : List ℕ). get_or l k 0) e, worst_at (length list) p N k r)
        | no r ↦ omega (arith, get_or-eq_default list' 0 {n = k} (omega arith))
      ]) refl refl refl

  pub worst_refused : (k : ℕ) → (k ≡ 0 → ⊥) → k ≡ number → WorstTold table d q n p N list (answer.Refused k) list
  unfolding worst_answer unless_refused
  worst_refused zero r e = absurd (r refl)
  worst_refused (suc k) r e = record { told = rw (← e); written = rw (← e) }

  pub call_refused : {A : Type 0} (given : Result A Refusal) (answered : Result ℕ Refusal) (r : Refusal)
      → number_given given ≡ number → given ≡ Err r → answered ≡ Err r → WorstTold table d q n p N list (worst_given answered) list
  unfolding worst_given
  call_refused given answered r numbered refused e =
      rw (ap worst_given e) (worst_refused (refusal_number r) (refusal_numbered r) (given_number given r number numbered refused))

  pub worst_told : number ≡ 0 → (list' : List ℕ) → list' ≡ worst_trace (length list) p N → (v : ℕ)
      → v ≡ trace_loss table d q list' → WorstTold table d q n p N list (answer.Loss v) list'
  unfolding worst_answer unless_refused worst_loss
  worst_told none list' e v same =
      let (set, short, long, few) = accepted none in
      let whole : list' ≡ worst_trace n p N = e ∙ ap (λ (m : ℕ). worst_trace m p N) long in
      let size : length list' ≡ n = ap length whole ∙ length_worst n p N in
      let loss : v ≡ lost_by table (delay_limit d) (buffer_limit q) (worst_trace n p N) n = same ∙ loss-accepted table d q list' (worst_runs none list' e) ∙ ap₂ (lost_by table (delay_limit d) (buffer_limit q)) whole size in
      record { told = rw none (ap answer.Loss loss); written = rw none whole }
