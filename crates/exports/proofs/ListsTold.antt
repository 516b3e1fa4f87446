-- What C gets of a square, the pencil, the listing, the trace that loses most and a chain: from what a function promises with number 0 the final theorem
-- about the lists that C lent, in C's order of arguments, and with another number every list as it was.
use mathlib.Core.Path.{◌≡◌, refl, sym, subst, ◌∙◌}
use mathlib.Core.List.{List}
use Prim.Native.Nat.{ℕ, zero, suc, ◌≤◌}
use native.Mathlib.Omega.{arith}
use lib.ListN.{length, get_or}
use Rattle.calculus.specs.Regulators.Trace.{arrivals, sum_to}
use Rattle.calculus.specs.Regulators.Rows.{envelope_of, admitted_by}
use Rattle.chain_calculus.specs.ChainDescribed.{Described}
use Rattle.square_calculus.specs.SquareRows.{SquareLowestLoss}
use Rattle.pencil_calculus.specs.Traces.{EveryTrace}
use Rattle.worst_calculus.specs.WorstTrace.{worst_loss}
use Rattle.refusals.specs.Limits.{delay_limit, buffer_limit}
use Rattle.orders.specs.Verdict.{Verdict, Accepted}
use Rattle.orders.specs.Answered.{verdict_of}
use Rattle.orders.proofs.Answered.{accepted-answer, filled_left}
use Rattle.found_links.proofs.ChainExplains.{chain-is_described, chain-sum}
use Rattle.found_links.proofs.ListsLeft.{find_left, find_rest}
use Rattle.square.proofs.SquareRunLowestLoss.{square_run-lowest-loss}
use Rattle.pencil.specs.PencilRun.{PencilRan}
use Rattle.pencil.specs.Listing.{Listed}
use Rattle.pencil.specs.Agreed.{Agreed}
use Rattle.pencil.proofs.PencilAgrees.{pencil_agrees}
use Rattle.pencil.proofs.ListedAgree.{listed_every, listing_left}
use Rattle.worst.specs.Worst.{worst_refusal, worst_answer}
use Rattle.worst.specs.WorstLoses.{WorstLoses}
use Rattle.worst.specs.Worst as worst
use Rattle.worst.proofs.WorstLoses.{worst_loses, worst_left}
use Rattle.c_answers.specs.declared.answer.Chain.{Chain}
use Rattle.c_answers.specs.Numbered.{FoundByNumber}
use Rattle.exports.specs.NumberedRuns.{SquareRanByNumber, PencilRanByNumber, ListedByNumber, worst_of, WorstByNumber}
use Rattle.exports.specs.declared.worst_case.Worst.{Worst}
use Rattle.exports.proofs.ChainsByNumber.{found_number, found_told}

-- Number 0 stands for a yes.
yes_verdict : (number : ℕ) → number ≡ 0 → verdict_of number ≡ Accepted
yes_verdict number none = sym (accepted-answer number none)

module _ (square : List (List ℕ)) (d q : ℕ) (trace ins drops outs : List ℕ) (number : ℕ) (ins' drops' outs' : List ℕ)
    (by : SquareRanByNumber square d q trace ins drops outs number ins' drops' outs') where
  pub square_told : number ≡ 0 → SquareLowestLoss square (delay_limit d) (buffer_limit q) trace ins' drops' outs'
  square_told none = square_run-lowest-loss square d q trace ins drops outs (verdict_of number) ins' drops' outs' by.ran (yes_verdict number none)

  pub square_left : (number ≡ 0 → ⊥) → (ins' ≡ ins) × (drops' ≡ drops) × (outs' ≡ outs)
  square_left some = filled_left _ _ _ _ ins drops outs verdict_of _ ins' drops' outs' by.ran (λ e. some (by.numbered ∙ e))

module _ (table : List ℕ) (d q : ℕ) (trace ins drops outs : List ℕ) (number : ℕ) (ins' drops' outs' : List ℕ)
    (by : PencilRanByNumber table d q trace ins drops outs number ins' drops' outs') where
  pub pencil_told : number ≡ 0 → Agreed table d q trace ins' drops' outs'
  pencil_told none =
      pencil_agrees table d q trace ins drops outs ins' drops' outs'
      (subst (λ (v : Verdict). PencilRan table d q trace ins drops outs v ins' drops' outs') (yes_verdict number none) by.ran)

  pub pencil_left : (number ≡ 0 → ⊥) → (ins' ≡ ins) × (drops' ≡ drops) × (outs' ≡ outs)
  pencil_left some = filled_left _ _ _ _ ins drops outs verdict_of _ ins' drops' outs' by.ran (λ e. some (by.numbered ∙ e))

module _ (slots : ℕ) (list : List ℕ) (number : ℕ) (list' : List ℕ) (by : ListedByNumber slots list number list') where
  pub listing_told : number ≡ 0 → EveryTrace slots list'
  listing_told none = listed_every slots list list' (subst (λ (v : Verdict). Listed slots list v list') (yes_verdict number none) by.ran)

  pub listing_told_left : (number ≡ 0 → ⊥) → list' ≡ list
  listing_told_left some = listing_left slots list (verdict_of number) list' by.ran (λ e. some (by.numbered ∙ e))

-- A loss that C is told with number 0 is the trace's; with another it is 0.
loss_of_lem : (k loss : ℕ) → (worst_of (worst_answer k loss)).number ≡ 0 → worst_answer k loss ≡ worst.Loss (worst_of (worst_answer k loss)).loss
unfolding worst_of worst_answer
loss_of_lem zero loss e = refl
loss_of_lem (suc k) loss e = absurd (omega arith)

loss_none : (k loss : ℕ) → ((worst_of (worst_answer k loss)).number ≡ 0 → ⊥) → (k ≡ 0 → ⊥) × ((worst_of (worst_answer k loss)).loss ≡ 0)
unfolding worst_of worst_answer
loss_none zero loss some = absurd (some refl)
loss_none (suc k) loss some = (λ e. omega arith, refl)

module _ (table : List ℕ) (d q n p N : ℕ) (list : List ℕ) (answer : Worst) (list' : List ℕ) (by : WorstByNumber table d q n p N list answer list') where
  abbrev refusal : ℕ
  refusal = worst_refusal table d q n p (length list)

  abbrev loss : ℕ
  loss = worst_loss table (delay_limit d) (buffer_limit q) n p N

  pub worst_told : answer.number ≡ 0 → WorstLoses table d q n p N list' answer.loss
  worst_told none =
      let told : worst_answer refusal loss ≡ worst.Loss answer.loss = rw by.answers (loss_of_lem refusal loss (rw by.answers at none)) in
      worst_loses table d q n p N list answer.loss list' (record { told = sym told; written = by.written })

  pub worst_told_left : (answer.number ≡ 0 → ⊥) → (list' ≡ list) × (answer.loss ≡ 0)
  worst_told_left some =
      let (refused, blank) = loss_none refusal loss (λ e. some (rw by.answers e)) in
      (worst_left table d q n p N list (worst_answer refusal loss) list' (record { told = refl; written = by.written }) refused, rw by.answers blank)

module _ (table : List ℕ) (d q : ℕ) (trace : List ℕ) (t : ℕ) (slots marks amounts : List ℕ) (answer : Chain) (slots' marks' amounts' : List ℕ)
    (by : FoundByNumber table d q trace t slots marks amounts answer slots' marks' amounts') where
  pub find_told : answer.number ≡ 0
      → Described (envelope_of table) (delay_limit d) (buffer_limit q) (arrivals trace) t slots' marks' amounts' answer.places
      × (sum_to amounts' answer.places ≡ admitted_by table (delay_limit d) (buffer_limit q) trace t)
      × ((k : ℕ) → answer.places ≤ k → (get_or slots' k 0 ≡ get_or slots k 0) × (get_or marks' k 0 ≡ get_or marks k 0) × (get_or amounts' k 0 ≡ get_or amounts k 0))
  find_told none =
      let finding = found_told table d q trace t slots marks amounts answer slots' marks' amounts' by none in (
        chain-is_described table d q trace t slots marks amounts answer.places slots' marks' amounts' finding,
        chain-sum table d q trace t slots marks amounts answer.places slots' marks' amounts' finding,
        find_rest table d q trace t slots marks amounts slots' marks' amounts' answer.places finding,
      )

  pub find_told_left : (answer.number ≡ 0 → ⊥) → (slots' ≡ slots) × (marks' ≡ marks) × (amounts' ≡ amounts)
  find_told_left some =
      find_left table d q trace t slots marks amounts slots' marks' amounts' _ by.finds
      (λ e. some (found_number table d q trace t slots marks amounts answer slots' marks' amounts' by ∙ e))
