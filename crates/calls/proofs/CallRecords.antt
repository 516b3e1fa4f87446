-- A list of calls on a machine that takes slots: its numbers are those of the rules, and where each slot of a trace leads from a
-- state that follows theorem 5.1 to the next, its records are theorem 5.1's.
use mathlib.Core.Path.{◌≡◌, refl, sym, ap, ◌∙◌}
use mathlib.Core.Logic.{⊎_elim}
use mathlib.Core.List.{List, [], ◌∷◌, map}
use Prim.Native.Nat.{ℕ, zero, suc, ◌+◌, ◌<◌, max}
use native.Mathlib.Numerals.{add-one}
use native.Mathlib.Omega.{arith}
use lib.ListN.{length, get_or, drop}
use lib.Seq.{get_or-drop, drop-drop}
use Rattle.calculus.specs.Numbers.Limit.{Limit}
use Rattle.calculus.specs.Regulators.Clipper.{admitted}
use Rattle.calculus.specs.Regulators.Trace.{arrivals}
use Rattle.refusals.specs.Limits.{slot_refusal}
use Rattle.live_step.specs.Fill.{form_fill, bench_fill}
use Rattle.calls.specs.Calls.{Machine, answers, after, accepted_from, counted, taken_after, numbers_from, number_of}
use Rattle.calls.specs.CallsRun.{row_after, rows_after}
use Rattle.live_step.specs.declared.record.SlotRecord.{SlotRecord}
use Rattle.live_step.specs.Answer.{Counted, Refused}
use Rattle.calls.proofs.AcceptedCalls.{Taken, Turned, call_judged}
use Rattle.calls.proofs.RecordColumns.{peak_over}

-- what a machine does at any of its states, however it came about: a refused slot gives its number and leaves the state; an
-- accepted one gives a record, counts a slot, and raises each peak to the record's fill where that is greater
pub record TakesSlots {S : Type 0} (m : Machine S) : Type 0 where
  pub refuses : (s : S) (n k : ℕ) → slot_refusal n (m.slots s) ≡ suc k → (m.answer s n ≡ Refused (suc k)) × (m.next s n ≡ s)
  pub counts : (s : S) (n : ℕ) → slot_refusal n (m.slots s) ≡ 0
      → (c : SlotRecord) × (m.answer s n ≡ Counted c) × (m.slots (m.next s n) ≡ suc (m.slots s))
      × (m.form_peak (m.next s n) ≡ max (m.form_peak s) (form_fill c)) × (m.bench_peak (m.next s n) ≡ max (m.bench_peak s) (bench_fill c))

-- states that t slots of the trace w lead to: each next slot is answered by theorem 5.1's record and leads to the next state
pub record FollowsTrace {S : Type 0} (m : Machine S) (F : ℕ → ℕ → ℕ) (d q : Limit) (w : List ℕ) (Reached : ℕ → S → Type 0) : Type 0 where
  pub taken : (t : ℕ) (s : S) → Reached t s → m.slots s ≡ t
  pub total : (t : ℕ) (s : S) → Reached t s → m.admits s ≡ admitted F d q (arrivals w) t
  pub goes_on : (t : ℕ) (s : S) → t < 1000000 → Reached t s
      → (m.answer s (get_or w t 0) ≡ Counted (row_after F d q (arrivals w) t)) × Reached (suc t) (m.next s (get_or w t 0))

accepted_none : (t : ℕ) → length (accepted_from t []) ≡ 0
unfolding accepted_from
accepted_none t = refl

-- The trace's next slot, and what is left of it after that.
trace_next : (w : List ℕ) (t n : ℕ) (l : List ℕ) → drop t w ≡ n ∷ l → get_or w t 0 ≡ n
trace_next w t n l e =
    let here : t ≡ t + 0 = omega arith in
    ap (λ (k : ℕ). get_or w k 0) here ∙ sym (get_or-drop t w 0 0) ∙ ap (λ (m : List ℕ). get_or m 0 0) e

trace_rest : (w : List ℕ) (t n : ℕ) (l : List ℕ) → drop t w ≡ n ∷ l → drop (suc t) w ≡ l
trace_rest w t n l e = ap (λ (k : ℕ). drop k w) (sym (add-one t)) ∙ sym (drop-drop 1 t w) ∙ ap (drop 1) e

module _ {S : Type 0} (m : Machine S) (takes : TakesSlots m) where
  -- Each call gets the number that the rules give it.
  pub calls_numbered : (calls : List ℕ) (s : S) → map number_of (answers m s calls) ≡ numbers_from (m.slots s) calls
  unfolding answers numbers_from number_of taken_after
  calls_numbered [] s = refl
  calls_numbered (n ∷ calls) s = by (slot_refusal n (m.slots s)) refl (calls_numbered calls)
    where
      by : (k : ℕ) → slot_refusal n (m.slots s) ≡ k → ((s : S) → map number_of (answers m s calls) ≡ numbers_from (m.slots s) calls)
          → number_of (m.answer s n) ∷ map number_of (answers m (m.next s n) calls) ≡ slot_refusal n (m.slots s) ∷ numbers_from (taken_after (slot_refusal n (m.slots s)) (m.slots s)) calls
      by zero e more =
          let (c, answered, counted, _, _) = takes.counts s n e in
          rw (answered, e) (ap (λ (l : List ℕ). 0 ∷ l) (more (m.next s n) ∙ ap (λ (t : ℕ). numbers_from t calls) counted))
      by (suc k) e more =
          let (answered, same) = takes.refuses s n k e in
          rw (answered, same, e) (ap (λ (l : List ℕ). suc k ∷ l) (more s))

  -- The peaks are the greatest fills of the records answered, and of what they were.
  pub calls_peaks : (calls : List ℕ) (s : S) → (m.form_peak (after m s calls) ≡ peak_over form_fill (m.form_peak s) (counted (answers m s calls)))
      × (m.bench_peak (after m s calls) ≡ peak_over bench_fill (m.bench_peak s) (counted (answers m s calls)))
  unfolding answers after counted peak_over
  calls_peaks [] s = (refl, refl)
  calls_peaks (n ∷ calls) s = by (slot_refusal n (m.slots s)) refl (calls_peaks calls)
    where
      by : (k : ℕ) → slot_refusal n (m.slots s) ≡ k
          → ((s : S) → (m.form_peak (after m s calls) ≡ peak_over form_fill (m.form_peak s) (counted (answers m s calls))) × (m.bench_peak (after m s calls) ≡ peak_over bench_fill (m.bench_peak s) (counted (answers m s calls))))
          → (m.form_peak (after m (m.next s n) calls) ≡ peak_over form_fill (m.form_peak s) (counted (m.answer s n ∷ answers m (m.next s n) calls)))
          × (m.bench_peak (after m (m.next s n) calls) ≡ peak_over bench_fill (m.bench_peak s) (counted (m.answer s n ∷ answers m (m.next s n) calls)))
      by zero e more =
          let (c, answered, _, form, bench) = takes.counts s n e in
          let (form-later, bench-later) = more (m.next s n) in
          rw answered (
            form-later ∙ ap (λ (p : ℕ). peak_over form_fill p (counted (answers m (m.next s n) calls))) form,
            bench-later ∙ ap (λ (p : ℕ). peak_over bench_fill p (counted (answers m (m.next s n) calls))) bench,
          )
      by (suc k) e more =
          let (answered, same) = takes.refuses s n k e in
          rw (answered, same) (more s)

  module _ (F : ℕ → ℕ → ℕ) (d q : Limit) (w : List ℕ) (Reached : ℕ → S → Type 0) (follows : FollowsTrace m F d q w Reached) where
    -- A state that t slots lead to has taken t slots.
    pub slots_follow : (t : ℕ) (s : S) → Reached t s → m.slots s ≡ t
    slots_follow t s reached = follows.taken t s reached

    -- The calls that are left answer the records that are left, and the state that is left is the one that they lead to.
    pub calls_follow : (calls : List ℕ) (t : ℕ) (s : S) → Reached t s → drop t w ≡ accepted_from t calls
        → (counted (answers m s calls) ≡ rows_after F d q (arrivals w) t (length (accepted_from t calls))) × Reached (t + length (accepted_from t calls)) (after m s calls)
    unfolding answers after counted rows_after
    calls_follow [] t s reached rest =
        let e : t + 0 ≡ t = omega arith in
        rw (accepted_none t, e) (refl, reached)
    calls_follow (n ∷ calls) t s reached rest = ⊎_elim (taken (calls_follow calls (suc t))) (turned (calls_follow calls t)) (call_judged t n calls)
      where
        Goal : Type 0
        Goal = (counted (m.answer s n ∷ answers m (m.next s n) calls) ≡ rows_after F d q (arrivals w) t (length (accepted_from t (n ∷ calls))))
            × Reached (t + length (accepted_from t (n ∷ calls))) (after m (m.next s n) calls)

        taken : ((s : S) → Reached (suc t) s → drop (suc t) w ≡ accepted_from (suc t) calls
            → (counted (answers m s calls) ≡ rows_after F d q (arrivals w) (suc t) (length (accepted_from (suc t) calls))) × Reached (suc t + length (accepted_from (suc t) calls)) (after m s calls))
            → Taken t n calls → Goal
        taken more call =
            let later : drop t w ≡ n ∷ accepted_from (suc t) calls = rest ∙ call.next in
            let here : get_or w t 0 ≡ n = trace_next w t n _ later in
            let (answered, next) = follows.goes_on t s call.free reached in
            let (rows, left) = more (m.next s n) (rw here at next) (trace_rest w t n _ later) in
            let e : suc t + length (accepted_from (suc t) calls) ≡ t + suc (length (accepted_from (suc t) calls)) = omega arith in
            rw (call.next, rw here at answered) (ap (λ (l : List SlotRecord). row_after F d q (arrivals w) t ∷ l) rows, rw e at left)

        turned : ((s : S) → Reached t s → drop t w ≡ accepted_from t calls
            → (counted (answers m s calls) ≡ rows_after F d q (arrivals w) t (length (accepted_from t calls))) × Reached (t + length (accepted_from t calls)) (after m s calls))
            → Turned t n calls → Goal
        turned more call =
            let number : slot_refusal n (m.slots s) ≡ suc call.less_one = ap (slot_refusal n) (slots_follow t s reached) ∙ call.number in
            let (answered, same) = takes.refuses s n call.less_one number in
            rw (call.same, answered, same) (more s reached (rest ∙ call.same))
