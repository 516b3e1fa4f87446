-- The rows of a list of answers: each field is the record's, and a refused answer's number is none of an accepted one's.
use mathlib.Core.Path.{◌≡◌, refl, ap, ap₂, subst, sym, ◌∙◌}
use mathlib.Core.List.{List, [], ◌∷◌, map}
use Prim.Native.Nat.{ℕ, zero, suc}
use Rattle.calculus.specs.Numbers.Limit.{Limit}
use Rattle.live_step.specs.declared.record.SlotRecord.{SlotRecord}
use Rattle.live_step.specs.Answer.{answer_by, SlotAnswer, Counted, Refused}
use Rattle.calls.specs.Calls.{Machine, answers, counted, admitted_in, dropped_in, departed_in, numbers_from, number_of, unrefused}
use Rattle.calls.specs.CallsRun.{CallsRun}
use Rattle.c_answers.specs.Numbered.{row_of}
use Rattle.c_answers.specs.declared.answer.SlotRow.{SlotRow}
use Rattle.c_promises.specs.Calls.{CallsJudged}
use Rattle.c_promises.specs.Rows.{counted_row, refused_row, rows_by, kept_if, accepted_rows, RowsRun}
use Rattle.c_promises.proofs.Calls.{numbers_judged}

-- answers of which none is refused by 0
data Told : List SlotAnswer → Type 0 where
  nothing : Told []
  accepted : {c : SlotRecord} {l : List SlotAnswer} → Told l → Told (Counted c ∷ l)
  refused : {k : ℕ} {l : List SlotAnswer} → Told l → Told (Refused (suc k) ∷ l)

told_by_lem : (k : ℕ) (c : SlotRecord) (l : List SlotAnswer) → Told l → Told (answer_by k c ∷ l)
unfolding answer_by
told_by_lem zero c l t = accepted t
told_by_lem (suc k) c l t = refused t

-- A machine whose answers go by a number gives only such answers.
answers_told : {S : Type 0} (m : Machine S) (number : S → ℕ → ℕ) (told : S → ℕ → SlotRecord) → ((s : S) (n : ℕ) → m.answer s n ≡ answer_by (number s n) (told s n))
    → (s : S) (calls : List ℕ) → Told (answers m s calls)
unfolding answers
answers_told m number told same s [] = nothing
answers_told m number told same s (n ∷ calls) =
    rw (same s n) (told_by_lem (number s n) (told s n) _ (answers_told m number told same (m.next s n) calls))

-- Their rows are made of their numbers and records,
rows_filled : (l : List SlotAnswer) → Told l → map row_of l ≡ rows_by (map number_of l) (counted l)
unfolding row_of rows_by counted number_of counted_row refused_row
rows_filled [] nothing = refl
rows_filled (Counted c ∷ l) (accepted t) = ap (λ (rows : List SlotRow). row_of (Counted c) ∷ rows) (rows_filled l t)
rows_filled (Refused zero ∷ l) told = elim told [ ]
rows_filled (Refused (suc k) ∷ l) (refused t) = ap (λ (rows : List SlotRow). row_of (Refused (suc k)) ∷ rows) (rows_filled l t)

-- and the accepted ones are their records'.
rows-accepted : (l : List SlotAnswer) → Told l → accepted_rows (map row_of l) ≡ map counted_row (counted l)
unfolding row_of accepted_rows kept_if counted counted_row
rows-accepted [] nothing = refl
rows-accepted (Counted c ∷ l) (accepted t) = ap (λ (rows : List SlotRow). row_of (Counted c) ∷ rows) (rows-accepted l t)
rows-accepted (Refused zero ∷ l) told = elim told [ ]
rows-accepted (Refused (suc k) ∷ l) (refused t) = rows-accepted l t

counts_told : (field : SlotRow → ℕ) (kept : SlotRecord → ℕ) → ((c : SlotRecord) → field (counted_row c) ≡ kept c) → (l : List SlotRecord) → map field (map counted_row l) ≡ map kept l
counts_told field kept same [] = refl
counts_told field kept same (c ∷ l) = ap₂ ◌∷◌ (same c) (counts_told field kept same l)

admitted_told : (l : List SlotAnswer) → Told l → map (λ (a : SlotRow). a.admitted) (accepted_rows (map row_of l)) ≡ admitted_in l
unfolding admitted_in counted_row
admitted_told l t = rw (rows-accepted l t) (counts_told _ _ (λ c. refl) (counted l))

dropped_told : (l : List SlotAnswer) → Told l → map (λ (a : SlotRow). a.dropped) (accepted_rows (map row_of l)) ≡ dropped_in l
unfolding dropped_in counted_row
dropped_told l t = rw (rows-accepted l t) (counts_told _ _ (λ c. refl) (counted l))

departed_told : (l : List SlotAnswer) → Told l → map (λ (a : SlotRow). a.departed) (accepted_rows (map row_of l)) ≡ departed_in l
unfolding departed_in counted_row
departed_told l t = rw (rows-accepted l t) (counts_told _ _ (λ c. refl) (counted l))

rows-number : (l : List SlotAnswer) → map (λ (a : SlotRow). a.number) (map row_of l) ≡ map number_of l
unfolding row_of number_of
rows-number [] = refl
rows-number (Counted c ∷ l) = ap (λ (numbers : List ℕ). 0 ∷ numbers) (rows-number l)
rows-number (Refused n ∷ l) = ap (λ (numbers : List ℕ). n ∷ numbers) (rows-number l)

-- What is claimed of a machine's answers holds of their rows.
pub rows_run : {S : Type 0} (m : Machine S) (number : S → ℕ → ℕ) (told : S → ℕ → SlotRecord) → ((s : S) (n : ℕ) → m.answer s n ≡ answer_by (number s n) (told s n))
    → (f : ℕ → ℕ) (d q : Limit) (s : S) (calls : List ℕ) → CallsRun m f d q s calls → RowsRun f d q calls (map row_of (answers m s calls))
rows_run m number told same f d q s calls run =
    let l : List SlotAnswer = answers m s calls in
    let t : Told l = answers_told m number told same s calls in
    let numbers : map (λ (a : SlotRow). a.number) (map row_of l) ≡ numbers_from 0 calls = rows-number l ∙ run.numbered in
    record {
      judged = subst (CallsJudged 0 calls) (sym numbers) (numbers_judged 0 calls);
      traced = run.traced ∙ ap (λ (ks : List ℕ). unrefused ks calls) (sym numbers);
      filled = rows_filled l t ∙ ap₂ rows_by (sym (rows-number l)) run.rows;
      lowest = rw (admitted_told l t, dropped_told l t, departed_told l t) run.lowest;
    }
