-- What is claimed of a list of calls holds of every machine that takes slots and whose states follow theorem 5.1 from the one that
-- it starts from.
use mathlib.Core.Path.{◌≡◌, refl, ap, ◌∙◌}
use mathlib.Core.List.{List, map}
use Prim.Native.Nat.{ℕ, zero, suc, ◌+◌, ◌≤◌}
use native.Mathlib.Omega.{arith}
use lib.ListN.{length, get_or}
use Rattle.calculus.specs.Numbers.Limit.{Limit, at_most}
use Rattle.calculus.specs.Envelopes.Envelope.{windows, ClosedEnvelope}
use Rattle.calculus.specs.Regulators.Trace.{arrivals}
use Rattle.calculus.specs.Regulators.Fill.{form_fill_at, bench_fill_at, greatest}
use Rattle.calculus.specs.Losses.LossCurve.{LowestLoss}
use Rattle.calculus.proofs.Regulators.Fill.{greatest_most, form_within, bench_within}
use Rattle.calculus.proofs.Losses.LossCurve.{counts-lowest}
use Rattle.live_step.specs.Fill.{form_fill, bench_fill}
use Rattle.calls.specs.Calls.{Machine, answers, after, trace_of, counted, admitted_in, dropped_in, departed_in, numbers_from}
use Rattle.calls.specs.CallsRun.{rows_after, CallsRun}
use Rattle.calls.proofs.AcceptedCalls.{accepted_few, accepted_short, accepted-unrefused}
use Rattle.calls.proofs.CallRecords.{TakesSlots, FollowsTrace, calls_numbered, calls_peaks, slots_follow, calls_follow}
use Rattle.calls.proofs.RecordColumns.{rows-admitted, rows_dropped, rows-departed, rows-form, rows-bench, peak-form, peak-bench}
use Rattle.calls.proofs.RefusedCalls.{refused_left, refused-others}

-- a state that a machine starts from: no slot is taken, both peaks are 0, and whatever the trace, its states follow theorem 5.1
pub record Starts {S : Type 0} (m : Machine S) (f : ℕ → ℕ) (d q : Limit) (s : S) (Reached : List ℕ → ℕ → S → Type 0) : Type 0 where
  pub fresh : m.slots s ≡ 0
  pub form_fresh : m.form_peak s ≡ 0
  pub bench_fresh : m.bench_peak s ≡ 0
  pub first : (w : List ℕ) → Reached w 0 s
  pub follows : (w : List ℕ) → ((k : ℕ) → get_or w k 0 ≤ 1000000) → FollowsTrace m (windows f) d q w (Reached w)

module _ {S : Type 0} (m : Machine S) (takes : TakesSlots m) (f : ℕ → ℕ) (closed : ClosedEnvelope (windows f)) (d q : Limit) (s : S)
    (Reached : List ℕ → ℕ → S → Type 0) (starts : Starts m f d q s Reached) (calls : List ℕ) where
  abbrev w : List ℕ
  w = trace_of calls

  abbrev T : ℕ
  T = length w

  few : (k : ℕ) → get_or w k 0 ≤ 1000000
  unfolding trace_of
  few k = accepted_few 0 calls k

  arrivals_few : (k : ℕ) → arrivals w k ≤ 1000000
  unfolding arrivals
  arrivals_few zero = omega arith
  arrivals_few (suc k) = few k

  short : T ≤ 1000000
  unfolding trace_of
  short = omega (arith, accepted_short 0 calls (omega arith))

  followed : (counted (answers m s calls) ≡ rows_after (windows f) d q (arrivals w) 0 T) × Reached w T (after m s calls)
  unfolding trace_of
  followed =
      let e : 0 + T ≡ T = omega arith in
      let both = calls_follow m takes (windows f) d q w (Reached w) (starts.follows w few) calls 0 s (starts.first w) refl in
      (both.0, rw e at both.1)

  pub run_reached : Reached w T (after m s calls)
  run_reached = followed.1

  form_peak_lem : m.form_peak (after m s calls) ≡ greatest (form_fill_at (windows f) d q (arrivals w)) T
  form_peak_lem =
      (calls_peaks m takes calls s).0 ∙ rw (starts.form_fresh, followed.0) (peak-form (windows f) d q (arrivals w) closed arrivals_few T short)

  bench_peak_lem : m.bench_peak (after m s calls) ≡ greatest (bench_fill_at (windows f) d q (arrivals w)) T
  bench_peak_lem =
      (calls_peaks m takes calls s).1 ∙ rw (starts.bench_fresh, followed.0) (peak-bench (windows f) d q (arrivals w) closed arrivals_few T short)

  form_small : (n : ℕ) → q ≡ at_most n → m.form_peak (after m s calls) ≤ n
  form_small n e =
      rw form_peak_lem (greatest_most (form_fill_at (windows f) d q (arrivals w)) T n (λ t p r. form_within (windows f) closed d q (arrivals w) n e t))

  bench_small : (n : ℕ) → q ≡ at_most n → m.bench_peak (after m s calls) ≤ n
  bench_small n e =
      rw bench_peak_lem (greatest_most (bench_fill_at (windows f) d q (arrivals w)) T n (λ t p r. bench_within (windows f) closed d q (arrivals w) n e t))

  lowest-loss : LowestLoss (windows f) d q w (admitted_in (answers m s calls)) (dropped_in (answers m s calls)) (departed_in (answers m s calls))
  unfolding admitted_in dropped_in departed_in
  lowest-loss =
      rw (
        followed.0,
        rows-admitted (windows f) d q (arrivals w) T,
        rows_dropped (windows f) d q (arrivals w) T,
        rows-departed (windows f) d q (arrivals w) T,
      )
      (counts-lowest (windows f) closed d q w)

  -- The theorem, for any such machine.
  pub calls_run : CallsRun m f d q s calls
  unfolding trace_of
  calls_run =
      record {
        numbered = calls_numbered m takes calls s ∙ ap (λ (t : ℕ). numbers_from t calls) starts.fresh;
        traced = accepted-unrefused 0 calls;
        rows = followed.0;
        form_fills = ap (map form_fill) followed.0 ∙ rows-form (windows f) d q (arrivals w) closed arrivals_few T short;
        bench_fills = ap (map bench_fill) followed.0 ∙ rows-bench (windows f) d q (arrivals w) closed arrivals_few T short;
        slots_left = slots_follow m takes (windows f) d q w (Reached w) (starts.follows w few) T (after m s calls) followed.1;
        admitted_left = (starts.follows w few).total T (after m s calls) followed.1;
        form_peak_left = form_peak_lem;
        bench_peak_left = bench_peak_lem;
        form_peak_within = form_small;
        bench_peak_within = bench_small;
        refused_left = λ more. refused_left m takes s calls more;
        refused-others = λ more. refused-others m takes s calls more;
        lowest = lowest-loss;
      }
