-- Runs that answer a verdict or an enum answer its number.
use mathlib.Core.Path.{◌≡◌, sym, ap, subst, ◌∙◌}
use mathlib.Core.List.{List}
use Prim.Native.Nat.{ℕ}
use Rattle.orders.specs.Verdict.{Verdict}
use Rattle.orders.specs.Answered.{verdict_of, verdict_number}
use Rattle.orders.proofs.Answered.{number_of_verdict}
use Rattle.pencil.specs.Listing.{Listed}
use Rattle.worst.specs.Worst.{WorstTold}
use Rattle.worst.specs.Worst.{WorstAnswer}
use Rattle.exports.specs.declared.worst_case.Worst.{Worst}
use Rattle.exports.specs.NumberedRuns.{ListedByNumber, worst_of, WorstByNumber}

-- What is said of a verdict is said of the verdict that its number stands for.
by_number : (P : Verdict → Type 0) (verdict : Verdict) (number refusal : ℕ) → number ≡ verdict_number verdict → verdict ≡ verdict_of refusal → P verdict
    → (number ≡ refusal) × P (verdict_of number)
by_number P verdict number refusal e answered p =
    let same : number ≡ refusal = e ∙ ap verdict_number answered ∙ number_of_verdict refusal in
    (same, subst P (answered ∙ ap verdict_of (sym same)) p)

pub listed_by-number : {slots : ℕ} {list list' : List ℕ} {verdict : Verdict} {number : ℕ} → number ≡ verdict_number verdict → Listed slots list verdict list'
    → ListedByNumber slots list number list'
listed_by-number {slots} {list} {list'} {verdict} {number} e r =
    let (numbered, told) = by_number (λ v. Listed slots list v list') verdict number _ e r.answered r in
    record { numbered = numbered; ran = told }

pub worst_by-number : {table : List ℕ} {d q wide n p N : ℕ} {list list' : List ℕ} {loses : WorstAnswer} {answer : Worst} → answer ≡ worst_of loses → wide ≡ q
    → WorstTold table d wide n p N list loses list' → WorstByNumber table d q n p N list answer list'
worst_by-number {table} {d} {q} {wide} {n} {p} {N} {list} {list'} {loses} {answer} e w told =
    let r = subst (λ (b : ℕ). WorstTold table d b n p N list loses list') w told in
    record { answers = e ∙ ap worst_of r.told; written = r.written }
