-- Ours is always judged permitted: the lists that an accepted run leaves, whatever it was lent.
use mathlib.Core.Path.{◌≡◌, sym, ◌∙◌}
use mathlib.Core.List.{List}
use Prim.Native.Nat.{ℕ}
use lib.ListN.{length}
use Rattle.orders.specs.Refusal.{◌or_else◌}
use Rattle.orders.specs.Verdict.{Verdict, Accepted}
use Rattle.orders.proofs.Refusals.{or_else_none}
use Rattle.refusals.specs.Limits.{set_up_refusal}
use Rattle.refusals.specs.Lengths.{length_refusal, lists_refusal}
use Rattle.refusals.proofs.Measured.{same_list}
use Rattle.refusals.specs.WholeTrace.{trace_refusal, run_refusal}
use Rattle.trace.specs.WholeTrace.{Ran}
use Rattle.trace.proofs.RunLowestLoss.{run-lowest-loss}
use Rattle.orders.proofs.Answered.{verdict-accepted}
use Rattle.rivals.specs.Judgement.{rival_refusal, judgement_of}
use Rattle.rivals.proofs.JudgedPermitted.{permitted_judged}

-- What a run accepts, a judge of two lists as long as the trace accepts.
run_judged : (table : List ℕ) (d q : ℕ) (trace : List ℕ) (ins drops outs admitted departed : ℕ) → run_refusal table d q trace ins drops outs ≡ 0
    → admitted ≡ length trace → departed ≡ length trace → rival_refusal table d q trace admitted departed ≡ 0
unfolding run_refusal trace_refusal rival_refusal ◌or_else◌
run_judged table d q trace ins drops outs admitted departed e long_ins long_outs =
    let (set, traced) = or_else_none (set_up_refusal table d q) _ e in
    let (short, rest) = or_else_none (length_refusal (length trace)) _ traced in
    let (_, counts) = or_else_none (lists_refusal (length trace) ins or_else lists_refusal (length trace) drops or_else lists_refusal (length trace) outs) _ rest in
    rw (set, short, same_list (length trace) admitted long_ins, same_list (length trace) departed long_outs, counts)

pub ours_judged : (table : List ℕ) (d q : ℕ) (trace ins drops outs : List ℕ) (verdict : Verdict) (ins' drops' outs' : List ℕ)
    → Ran table d q trace ins drops outs verdict ins' drops' outs' → verdict ≡ Accepted
    → judgement_of table d q trace ins' outs' ≡ record { number = 0; rule = 0; slot = 0; window = 0 }
ours_judged table d q trace ins drops outs verdict ins' drops' outs' ran accepted =
    let lowest = run-lowest-loss table d q trace ins drops outs verdict ins' drops' outs' ran accepted in
    let none = verdict-accepted _ (sym ran.answered ∙ accepted) in
    permitted_judged table d q trace ins' outs'
    (run_judged table d q trace (length ins) (length drops) (length outs) (length ins') (length outs') none lowest.long_ins lowest.long_outs)
    lowest.permitted
