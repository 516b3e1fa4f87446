-- The columns of theorem 5.1's records are what its totals count slot by slot, and their fills are its fills.
use mathlib.Core.Path.{◌≡◌, refl, sym, ap, ◌∙◌}
use mathlib.Core.List.{List, [], ◌∷◌, map}
use Prim.Native.Nat.{ℕ, zero, suc, ◌+◌, ◌-◌, ◌≤◌, ◌<◌, max}
use native.Mathlib.Omega.{arith}
use lib.ListN.{length, get_or}
use lib.Seq.{ext_get_or}
use Rattle.calculus.specs.Numbers.Limit.{Limit}
use Rattle.calculus.specs.Envelopes.Envelope.{ClosedEnvelope}
use Rattle.calculus.specs.Regulators.Clipper.{admitted}
use Rattle.calculus.specs.Regulators.Regulator.{departed, lost, held}
use Rattle.calculus.specs.Numbers.Lists.{list_of}
use Rattle.calculus.specs.Regulators.Trace.{slot_counts, slot_totals}
use Rattle.calculus.specs.Regulators.Fill.{form_fill_at, bench_fill_at, greatest}
use Rattle.calculus.proofs.Numbers.Lists.{length-list_of, list_of_at}
use Rattle.calculus.proofs.Regulators.Regulator.{admitted-arrived, admitted_rises, departed_under, departed_rises}
use Rattle.live_step.specs.Fill.{form_fill, bench_fill}
use Rattle.refusals.proofs.AcceptedSettings.{arrived-bound}
use Rattle.calls.specs.CallsRun.{row_after, rows_after}
use Rattle.live_step.specs.declared.record.SlotRecord.{SlotRecord}

-- the greatest of a reading of some records and of p
unfoldable pub peak_over : (SlotRecord → ℕ) → ℕ → List SlotRecord → ℕ
peak_over reading p [] = p
peak_over reading p (c ∷ l) = peak_over reading (max p (reading c)) l

module _ (F : ℕ → ℕ → ℕ) (d q : Limit) (a : ℕ → ℕ) where
  length_column : (field : SlotRecord → ℕ) (t n : ℕ) → length (map field (rows_after F d q a t n)) ≡ n
  unfolding rows_after
  length_column field t zero = refl
  length_column field t (suc n) = ap suc (length_column field (suc t) n)

  column_at : (field : SlotRecord → ℕ) (t n i : ℕ) → i < n → get_or (map field (rows_after F d q a t n)) i 0 ≡ field (row_after F d q a (t + i))
  unfolding rows_after
  column_at field t zero i p = absurd (omega arith)
  column_at field t (suc n) zero p = let e : t + 0 ≡ t = omega arith in ap (λ (k : ℕ). field (row_after F d q a k)) (sym e)
  column_at field t (suc n) (suc i) p =
      let e : suc t + i ≡ t + suc i = omega arith in
      column_at field (suc t) n i (omega arith) ∙ ap (λ (k : ℕ). field (row_after F d q a k)) e

  -- A column is the list of what it reads in each slot's record.
  column-is : (field : SlotRecord → ℕ) (h : ℕ → ℕ) (n : ℕ) → ((t : ℕ) → t < n → field (row_after F d q a t) ≡ h t) → map field (rows_after F d q a 0 n) ≡ list_of h n
  column-is field h n reads =
      ext_get_or 0 _ _ (length_column field 0 n ∙ sym (length-list_of h n))
      (λ i p.
      let inside : i < n = omega (arith, length_column field 0 n) in
      let e : 0 + i ≡ i = omega arith in
      column_at field 0 n i inside ∙ ap (λ (k : ℕ). field (row_after F d q a k)) e ∙ reads i inside ∙ sym (list_of_at h n i inside))

  pub rows-admitted : (n : ℕ) → map (λ (c : SlotRecord). c.admitted) (rows_after F d q a 0 n) ≡ slot_counts (admitted F d q a) n
  unfolding row_after slot_counts
  rows-admitted n = column-is _ _ n (λ t p. refl)

  pub rows_dropped : (n : ℕ) → map (λ (c : SlotRecord). c.dropped) (rows_after F d q a 0 n) ≡ slot_counts (lost F d q a) n
  unfolding row_after slot_counts
  rows_dropped n = column-is _ _ n (λ t p. refl)

  pub rows-departed : (n : ℕ) → map (λ (c : SlotRecord). c.departed) (rows_after F d q a 0 n) ≡ slot_counts (departed F d q a) n
  unfolding row_after slot_counts
  rows-departed n = column-is _ _ n (λ t p. refl)

  module _ (closed : ClosedEnvelope F) (few : (k : ℕ) → a k ≤ 1000000) where
    total_small : (t : ℕ) → t ≤ 1000000 → admitted F d q a t ≤ 1000000000000
    total_small t p = omega (arith, admitted-arrived F closed d q a t, arrived-bound a t (λ k r. few k))

    -- Of a record of theorem 5.1, the order form reads X(t) - Y(t) and the bench X(t) - Y(t-1).
    form_reads : (t : ℕ) → t < 1000000 → form_fill (row_after F d q a t) ≡ form_fill_at F d q a (suc t)
    unfolding form_fill row_after form_fill_at held
    form_reads t p =
        omega (
          arith,
          departed_under F closed d q a t,
          departed_under F closed d q a (suc t),
          admitted_rises F closed d q a t (suc t) (omega arith),
          departed_rises F closed d q a t (suc t) (omega arith),
          total_small (suc t) p,
        )

    bench_reads : (t : ℕ) → t < 1000000 → bench_fill (row_after F d q a t) ≡ bench_fill_at F d q a (suc t)
    unfolding bench_fill row_after bench_fill_at held
    bench_reads t p =
        let before : suc t - 1 ≡ t = omega arith in
        rw before (omega (arith, departed_under F closed d q a t, admitted_rises F closed d q a t (suc t) (omega arith), total_small (suc t) p))

    pub rows-form : (n : ℕ) → n ≤ 1000000 → map form_fill (rows_after F d q a 0 n) ≡ slot_totals (form_fill_at F d q a) n
    unfolding slot_totals
    rows-form n p = column-is form_fill _ n (λ t r. form_reads t (omega arith))

    pub rows-bench : (n : ℕ) → n ≤ 1000000 → map bench_fill (rows_after F d q a 0 n) ≡ slot_totals (bench_fill_at F d q a) n
    unfolding slot_totals
    rows-bench n p = column-is bench_fill _ n (λ t r. bench_reads t (omega arith))

    -- Their peaks are the greatest fills.
    peak-from : (reading : SlotRecord → ℕ) (h : ℕ → ℕ) → ((t : ℕ) → t < 1000000 → reading (row_after F d q a t) ≡ h (suc t))
        → (n t : ℕ) → t + n ≤ 1000000 → peak_over reading (greatest h t) (rows_after F d q a t n) ≡ greatest h (t + n)
    unfolding peak_over rows_after
    peak-from reading h reads zero t p = let e : t + 0 ≡ t = omega arith in rw e refl
    peak-from reading h reads (suc n) t p =
        let e : suc t + n ≡ t + suc n = omega arith in
        ap (λ (v : ℕ). peak_over reading (max (greatest h t) v) (rows_after F d q a (suc t) n)) (reads t (omega arith))
        ∙ ap (λ (g : ℕ). peak_over reading g (rows_after F d q a (suc t) n)) greatest_next
        ∙ peak-from reading h reads n (suc t) (omega arith) ∙ ap (greatest h) e
      where
        greatest_next : max (greatest h t) (h (suc t)) ≡ greatest h (suc t)
        greatest_next = unfold greatest in refl

    pub peak-form : (n : ℕ) → n ≤ 1000000 → peak_over form_fill 0 (rows_after F d q a 0 n) ≡ greatest (form_fill_at F d q a) n
    unfolding greatest
    peak-form n p = let e : 0 + n ≡ n = omega arith in rw e at (peak-from form_fill (form_fill_at F d q a) form_reads n 0 (omega arith))

    pub peak-bench : (n : ℕ) → n ≤ 1000000 → peak_over bench_fill 0 (rows_after F d q a 0 n) ≡ greatest (bench_fill_at F d q a) n
    unfolding greatest
    peak-bench n p = let e : 0 + n ≡ n = omega arith in rw e at (peak-from bench_fill (bench_fill_at F d q a) bench_reads n 0 (omega arith))
