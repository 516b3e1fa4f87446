-- The entrance: the merged table of accepted tables is accepted, so that its run is, and its rows are the path's.
use mathlib.Core.Path.{◌≡◌, refl, ◌∙◌}
use mathlib.Core.List.{List, [], ◌∷◌}
use Prim.Native.Nat.{ℕ, suc, ◌+◌, ◌-◌, ◌≤◌, ◌<◌}
use native.Mathlib.Decide.{dec_le}
use native.Mathlib.Omega.{arith}
use lib.ListN.{length, get_or, get_or-eq_default}
use borrow.Author.Tests.{le-ltb, eq-eqb}
use Rattle.calculus.specs.Numbers.Limit.{Limit}
use Rattle.calculus.specs.Envelopes.Closure.{Table}
use Rattle.calculus.specs.Envelopes.Envelope.{windows, ClosedEnvelope}
use Rattle.calculus.specs.Regulators.Trace.{arrivals, slot_counts}
use Rattle.calculus.specs.Regulators.Rows.{envelope_of, admitted_by, admitted_row}
use Rattle.path_calculus.specs.Path.{Stages, path_admitted}
use Rattle.path_calculus.specs.Merged.{merged}
use Rattle.calculus.proofs.Envelopes.Envelope.{closure_envelope}
use Rattle.calculus.proofs.Regulators.Regulator.{admitted-zero, admitted-arrivals, admitted_rises}
use Rattle.calculus.proofs.Regulators.Trace.{length-slot_counts, slot_counts_at}
use Rattle.path_calculus.proofs.PathEnvelope.{merged_closed}
use Rattle.path_calculus.proofs.PathStages.{path-admitted}
use Rattle.path_calculus.proofs.Merged.{merged-table, merged_small, merged_long}
use Rattle.orders.specs.Refusal.{◌when◌, ◌or_else◌}
use Rattle.refusals.specs.Table.{last_refusal, zero_refusal, entries_refusal, table_refusal}
use Rattle.refusals.proofs.TableJudged.{AcceptedTable, table-accepted, table_given}
use Rattle.path.specs.Refusals.{tables_refusal}
use Rattle.path.proofs.Merging.{judged_at}

-- Entries of at most 1,000,000 that do not fall get no number.
entries_none : (before : ℕ) (l : List ℕ) → ((k : ℕ) → get_or l k 0 ≤ 1000000) → ((k : ℕ) → k < length l → before ≤ get_or l k 0)
    → ((i j : ℕ) → i ≤ j → j < length l → get_or l i 0 ≤ get_or l j 0) → entries_refusal before l ≡ 0
unfolding entries_refusal ◌when◌ ◌or_else◌
entries_none before [] small above rises = refl
entries_none before (x ∷ l) small above rises =
    rw (le-ltb 1000000 x (small 0), le-ltb x before (above 0 (omega arith)))
    (entries_none x l (λ k. small (suc k)) (λ k p. rises 0 (suc k) (omega arith) (omega arith)) (λ i j p q. rises (suc i) (suc j) (omega arith) (omega arith)))

-- A table of 2 to 65 entries that starts at 0, does not fall and stays within 1,000,000 gets no number.
table_none : (table : List ℕ) → Table (length table - 1) (λ k. get_or table k 0) → length table ≤ 65 → ((k : ℕ) → get_or table k 0 ≤ 1000000) → table_refusal table ≡ 0
unfolding last_refusal zero_refusal ◌when◌ ◌or_else◌
table_none [] given fits small = absurd (omega (arith, given.nonempty))
table_none (x ∷ l) given fits small =
    rw (le-ltb (suc (length l) - 1) 1 (omega (arith, given.nonempty)), le-ltb 64 (suc (length l) - 1) (omega arith), eq-eqb x 0 given.starts)
    (entries_none 0 l (λ k. small (suc k)) (λ k p. omega arith) (λ i j p q. given.rises (suc i) (suc j) (omega arith) (omega arith)))

module _ (tables : List (List ℕ)) (some : 1 ≤ length tables) (judged : tables_refusal tables ≡ 0) where
  tabled : (i : ℕ) → i < length tables → AcceptedTable (get_or tables i [])
  tabled i p = table-accepted (get_or tables i []) (judged_at tables judged i p)

  -- Accepted tables make a path.
  pub path_stages : Stages tables
  path_stages = record { some = some; given = λ i p. table_given (get_or tables i []) (tabled i p) }

  -- Their merged table is accepted.
  pub merged-accepted : table_refusal (merged tables) ≡ 0
  merged-accepted =
      table_none (merged tables) (merged-table tables path_stages) (merged_long tables 65 (λ i p. omega (arith, (tabled i p).last_to)))
      (λ k. elim (dec_le (suc k) (length (merged tables))) [
        | yes p ↦ merged_small tables 1000000 (λ i k p. (tabled i p).small k) k p
        | no p ↦ omega (arith, get_or-eq_default (merged tables) 0 {n = k} (omega arith))
      ])

-- What the entrance admits starts at 0 and does not fall.
module _ (tables : List (List ℕ)) (ok : Stages tables) (d q : Limit) (a : ℕ → ℕ) where
  pub entrance_starts : path_admitted tables d q a 0 ≡ 0
  entrance_starts = path-admitted tables ok d q a 0 ∙ admitted-zero _ (merged_closed tables ok) d q a

  pub entrance_rises : (i j : ℕ) → i ≤ j → path_admitted tables d q a i ≤ path_admitted tables d q a j
  entrance_rises i j p =
      omega (arith, path-admitted tables ok d q a i, path-admitted tables ok d q a j, admitted_rises _ (merged_closed tables ok) d q a i j p)

-- No slot admits more than arrives in it.
module _ (table : List ℕ) (fine : table_refusal table ≡ 0) (d q : Limit) (trace : List ℕ) (few : (k : ℕ) → get_or trace k 0 ≤ 1000000) where
  admitted_step : (k : ℕ) → admitted_by table d q trace (suc k) ≤ admitted_by table d q trace k + get_or trace k 0
  unfolding admitted_by arrivals envelope_of
  admitted_step k =
      let closed : ClosedEnvelope (windows (envelope_of table)) = closure_envelope _ _ (table_given table (table-accepted table fine)) in
      admitted-arrivals (windows (envelope_of table)) closed d q (arrivals trace) k

  pub admitted_few : (k : ℕ) → get_or (admitted_row table d q trace) k 0 ≤ 1000000
  unfolding admitted_row
  admitted_few k =
      let X : ℕ → ℕ = admitted_by table d q trace in
      elim (dec_le (suc k) (length trace)) [
        | yes p ↦ omega (arith, slot_counts_at X (length trace) k p, admitted_step k, few k)
        | no p ↦ omega (arith, get_or-eq_default (slot_counts X (length trace)) 0 {n = k} (omega (arith, length-slot_counts X (length trace))))
      ]

pub length-admitted : (table : List ℕ) (d q : Limit) (trace : List ℕ) → length (admitted_row table d q trace) ≡ length trace
unfolding admitted_row
length-admitted table d q trace = length-slot_counts _ (length trace)
