-- What the state that is left tells: as many slots and packets as were answered, and of each fill the greatest, which some slot had.
use mathlib.Core.Path.{◌≡◌, sym, ◌∙◌}
use mathlib.Core.List.{List}
use Prim.Native.Nat.{ℕ, suc, ◌≤◌}
use native.Mathlib.Omega.{arith}
use lib.ListN.{length}
use Rattle.calculus.specs.Numbers.Limit.{Limit, at_most}
use Rattle.calculus.specs.Envelopes.Envelope.{windows}
use Rattle.calculus.specs.Regulators.Trace.{arrivals, sum_to}
use Rattle.calculus.specs.Regulators.Fill.{form_fill_at, bench_fill_at}
use Rattle.calculus.proofs.Regulators.Fill.{greatest_above, greatest_attained}
use Rattle.calls.specs.Calls.{Machine, answers, after, trace_of, admitted_in}
use Rattle.calls.specs.CallsRun.{CallsRun}

module _ {S : Type 0} (m : Machine S) (f : ℕ → ℕ) (d q : Limit) (s : S) (calls : List ℕ) (run : CallsRun m f d q s calls) where
  abbrev T : ℕ
  T = length (trace_of calls)

  abbrev form : ℕ → ℕ
  form = form_fill_at (windows f) d q (arrivals (trace_of calls))

  abbrev bench : ℕ → ℕ
  bench = bench_fill_at (windows f) d q (arrivals (trace_of calls))

  pub slots_answered : m.slots (after m s calls) ≡ length (admitted_in (answers m s calls))
  slots_answered = run.slots_left ∙ sym run.lowest.long_ins

  pub admitted_answered : m.admits (after m s calls) ≡ sum_to (admitted_in (answers m s calls)) T
  admitted_answered = run.admitted_left ∙ sym (run.lowest.admitted_total T (omega arith))

  -- No slot's fill is above its peak ..
  pub peaks_above : (t : ℕ) → 1 ≤ t → t ≤ T → (form t ≤ m.form_peak (after m s calls)) × (bench t ≤ m.bench_peak (after m s calls))
  peaks_above t p r = (
    omega (arith, run.form_peak_left, greatest_above form T t p r),
    omega (arith, run.bench_peak_left, greatest_above bench T t p r),
  )

  -- .. some slot's fill is its peak, ..
  pub form_peak_attained : (n : ℕ) → T ≡ suc n → (t : ℕ) × (1 ≤ t) × (t ≤ suc n) × (m.form_peak (after m s calls) ≡ form t)
  form_peak_attained n e = let (t, p, r, same) = greatest_attained form n in (t, p, r, run.form_peak_left ∙ rw e same)

  pub bench_peak_attained : (n : ℕ) → T ≡ suc n → (t : ℕ) × (1 ≤ t) × (t ≤ suc n) × (m.bench_peak (after m s calls) ≡ bench t)
  bench_peak_attained n e = let (t, p, r, same) = greatest_attained bench n in (t, p, r, run.bench_peak_left ∙ rw e same)

  -- .. and neither is above the buffer limit.
  pub peaks_within : (n : ℕ) → q ≡ at_most n → (m.form_peak (after m s calls) ≤ n) × (m.bench_peak (after m s calls) ≤ n)
  peaks_within n e = (run.form_peak_within n e, run.bench_peak_within n e)
