-- A file that gets no number holds a table, limits and a trace whose slots can be worked, both limits none among them.
use mathlib.Core.Path.{◌≡◌, refl}
use mathlib.Core.Bool.{Bool, true, false}
use mathlib.Core.List.{List, [], ◌∷◌}
use Prim.Native.Nat.{ℕ, suc, ◌≤◌}
use native.Mathlib.Omega.{arith}
use native.Mathlib.Decide.{dec_lt}
use lib.ListN.{length, get_or, get_or-eq_default}
use lib.Dec.{eqb}
use borrow.Author.Tests.{le-ltb, eq-eqb}
use Rattle.refusals.proofs.Measured.{counts_none}
use Rattle.calculus.proofs.Numbers.Lists.{list_of_at}
use Rattle.orders.specs.Refusal.{pick, ◌when◌, ◌or_else◌}
use Rattle.refusals.specs.Table.{last_window, last_refusal, table_refusal}
use Rattle.refusals.specs.Lengths.{length_refusal, lists_refusal}
use Rattle.refusals.specs.WholeTrace.{trace_refusal}
use Rattle.trace.specs.RunWork.{Workable}
use Rattle.refusals.proofs.TraceCounts.{counts_few}
use Rattle.stream.specs.Format.{last, slots, delay, buffer, table_of, burst_slots, burst_counts, arrived_in, file_trace}
use Rattle.stream.proofs.FileJudged.{length-table, length-trace, AcceptedFile}

-- Whichever of two numbers a test picks, neither is above the most.
picked_few : {most a b : ℕ} (test : Bool) → a ≤ most → b ≤ most → pick test a b ≤ most
unfolding pick
picked_few true p q = p
picked_few false p q = q

-- No slot has more arrivals than the largest count.
arrived_few : (most : ℕ) (named counts : List ℕ) (t : ℕ) → ((k : ℕ) → get_or counts k 0 ≤ most) → arrived_in named counts t ≤ most
unfolding arrived_in
arrived_few most [] counts t few = omega arith
arrived_few most (slot ∷ later) [] t few = omega arith
arrived_few most (slot ∷ later) (count ∷ counts) t few =
    picked_few (eqb slot t) (few 0) (arrived_few most later counts t (λ k. few (suc k)))

module _ (file : List ℕ) (ok : AcceptedFile file) where
  trace_few : (k : ℕ) → get_or (file_trace file) k 0 ≤ 1000000
  unfolding file_trace
  trace_few k =
      elim (dec_lt k (slots file)) [
        | yes p ↦ rw (list_of_at (λ t. arrived_in (burst_slots file) (burst_counts file) (suc t)) (slots file) k p) (arrived_few 1000000 (burst_slots file) (burst_counts file) (suc k) (counts_few (burst_counts file) ok.counted))
        | no p ↦ rw (get_or-eq_default (file_trace file) 0 {n = k} (omega (arith, length-trace file))) (omega arith)
      ]

  last_none : last_refusal (last_window (table_of file)) ≡ 0
  unfolding last_refusal ◌when◌ ◌or_else◌
  last_none =
      let window : last_window (table_of file) ≡ last file = omega (arith, length-table file) in
      rw (window, le-ltb (last file) 1 ok.sizes.last_from, le-ltb 64 (last file) ok.sizes.last_to)

  -- Its table gets no number.
  pub table_none : table_refusal (table_of file) ≡ 0
  unfolding ◌or_else◌
  table_none = rw last_none ok.values

  length_none : length_refusal (length (file_trace file)) ≡ 0
  unfolding length_refusal ◌when◌
  length_none = rw (le-ltb 4096 (length (file_trace file)) (omega (arith, length-trace file, ok.sizes.few_slots)))

  lists_none : lists_refusal (length (file_trace file)) (slots file) ≡ 0
  unfolding lists_refusal ◌when◌
  lists_none = rw (length-trace file, eq-eqb (slots file) (slots file) refl)

  -- So the slots of what the file holds can be worked, with three lists of T slots.
  pub file_workable : Workable (table_of file) (delay file) (buffer file) (file_trace file) (slots file) (slots file) (slots file)
  unfolding trace_refusal ◌or_else◌
  file_workable =
      record {
        tabled = table_none;
        delayed = ok.delayed;
        buffered = ok.buffered;
        traced = rw (length_none, lists_none) (counts_none (file_trace file) trace_few);
      }
