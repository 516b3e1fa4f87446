-- The rows that are made of a run's lists are those of theorem 5.1's pair.
use mathlib.Core.Path.{◌≡◌, refl, ap, ◌∙◌}
use mathlib.Core.List.{List}
use Prim.Native.Nat.{ℕ, zero, suc, ◌≤◌, ◌<◌}
use native.Mathlib.Decide.{dec_le}
use native.Mathlib.Omega.{arith}
use lib.ListN.{length, get_or, get_or-eq_default}
use Rattle.calculus.specs.Numbers.Limit.{Limit, delay_limit, buffer_limit}
use Rattle.calculus.specs.Envelopes.Envelope.{windows, ClosedEnvelope}
use Rattle.calculus.specs.Regulators.Regulator.{departed}
use Rattle.calculus.specs.Regulators.Trace.{arrivals, sum_to}
use Rattle.calculus.specs.Regulators.Rows.{envelope_of, admitted_by, departed_by, lost_by, admitted_row, dropped_row, departed_row}
use Rattle.calculus.specs.Losses.LossCurve.{LowestLoss}
use Rattle.calculus.proofs.Regulators.Clipper.{arrived-slot}
use Rattle.calculus.proofs.Regulators.Regulator.{admitted-arrivals, admitted_rises}
use Rattle.calculus.proofs.Losses.LossCurve.{counts-lowest}
use Rattle.calculus.proofs.Losses.LowestLoss.{ours_permitted}
use Rattle.refusals.proofs.AcceptedSettings as settled
use Rattle.refusals.proofs.AcceptedSettings.{set_up-accepted, envelope_closed, arrived-bound}
use Rattle.refusals.specs.Table.{last_window}
use Rattle.refusals.specs.WholeTrace.{run_refusal}
use Rattle.trace.proofs.RunAnswer.{AcceptedRun, run-accepted}
use Rattle.trace.proofs.Totals.{total_small, gone_small}
use Rattle.chain.specs.Rows.{summed_over}
use Rattle.found_links.specs.FoundRows.{StartsTo, Totals, Ended}
use Rattle.found_links.specs.OurRows.{OurRows}
use Rattle.chain.proofs.PreparedRows.{total-sums}

-- No slot has more than 1,000,000 arrivals.
pub arrivals_few : (trace : List ℕ) → ((k : ℕ) → get_or trace k 0 ≤ 1000000) → (k : ℕ) → arrivals trace k ≤ 1000000
unfolding arrivals
arrivals_few trace few zero = omega arith
arrivals_few trace few (suc k) = few k

-- No slot after the trace has any.
arrivals-after : (trace : List ℕ) (t : ℕ) → length trace ≤ t → arrivals trace (suc t) ≡ 0
unfolding arrivals
arrivals-after trace t p = get_or-eq_default trace 0 {n = t} p

-- What stays from each slot to the next stays.
ends_still : (h : ℕ → ℕ) (n : ℕ) → ((t : ℕ) → n ≤ t → h (suc t) ≡ h t) → (t : ℕ) → n ≤ t → h t ≡ h n
ends_still h n still zero p = let first : n ≡ 0 = omega arith in rw first refl
ends_still h n still (suc t) p =
    elim (dec_le n t) [
      | yes r ↦ still t r ∙ ends_still h n still t r
      | no r ↦ let last : n ≡ suc t = omega arith in rw last refl
    ]

module _ (table : List ℕ) (d q : ℕ) (trace : List ℕ) (one two three : ℕ) (none₀ : run_refusal table d q trace one two three ≡ 0) where
  abbrev D : Limit
  D = delay_limit d

  abbrev Q : Limit
  Q = buffer_limit q

  abbrev N : ℕ
  N = length trace

  ok : AcceptedRun table d q trace one two three
  ok = run-accepted table d q trace one two three none₀

  settings : settled.Accepted table D Q
  settings = set_up-accepted table d q ok.set_up

  closed : ClosedEnvelope (windows (envelope_of table))
  closed = envelope_closed table d q settings

  lowest : LowestLoss (windows (envelope_of table)) D Q trace (admitted_row table D Q trace) (dropped_row table D Q trace) (departed_row table D Q trace)
  unfolding admitted_row dropped_row departed_row admitted_by departed_by lost_by
  lowest = counts-lowest (windows (envelope_of table)) closed D Q trace

  -- Its totals fit 32 bits.
  admitted_fits : (k : ℕ) → k ≤ N → sum_to (admitted_row table D Q trace) k < 4294967296
  unfolding admitted_by
  admitted_fits k p = omega (arith, lowest.admitted_total k p, total_small table D Q settings trace ok.traced.few k, ok.traced.short)

  departed_fits : (k : ℕ) → k ≤ N → sum_to (departed_row table D Q trace) k < 4294967296
  unfolding departed_by
  departed_fits k p = omega (arith, lowest.departed_total k p, gone_small table D Q settings trace ok.traced.few k, ok.traced.short)

  dropped_fits : (k : ℕ) → k ≤ N → sum_to (dropped_row table D Q trace) k < 4294967296
  dropped_fits k p =
      omega (arith, lowest.dropped_total k p, arrived-bound (arrivals trace) k (λ i _. arrivals_few trace ok.traced.few i), ok.traced.short)

  abbrev X : ℕ → ℕ
  X = admitted_by table D Q trace

  -- After the trace nothing arrives, so nothing is admitted.
  trace_ended : Ended (arrivals trace) X N
  unfolding admitted_by
  trace_ended =
      record {
        arrives = ends_still _ N (λ t p. omega (arith, arrived-slot (arrivals trace) t, arrivals-after trace t p));
        admits = ends_still _ N
            (λ t p.
            omega (
              arith,
              admitted-arrivals (windows (envelope_of table)) closed D Q (arrivals trace) t,
              admitted_rises (windows (envelope_of table)) closed D Q (arrivals trace) t (suc t) (omega arith),
              arrivals-after trace t p,
            ));
      }

  module _ (admits drops departs : List ℕ) (same_in : admits ≡ admitted_row table D Q trace) (same_drop : drops ≡ dropped_row table D Q trace)
      (same_out : departs ≡ departed_row table D Q trace) where
    pub run_long : length admits ≡ length trace
    run_long = ap length same_in ∙ lowest.long_ins

    module _ (ins lost outs first second third : List ℕ) (summed : ins ≡ summed_over admits first) (losing : lost ≡ summed_over drops second)
        (leaving : outs ≡ summed_over departs third) where
      our_totals : Totals table (arrivals trace) X N ins lost outs
      unfolding admitted_by departed
      our_totals =
          record {
            admits = λ t p.
                total-sums _ first ins N lowest.long_ins ok.traced.short admitted_fits (rw same_in at summed) t p
                ∙ lowest.admitted_total t p;
            loses = λ t p.
                total-sums _ second lost N lowest.long_drops ok.traced.short dropped_fits (rw same_drop at losing) t p
                ∙ lowest.dropped_total t p;
            departs = λ t p.
                total-sums _ third outs N lowest.long_outs ok.traced.short departed_fits (rw same_out at leaving) t p
                ∙ lowest.departed_total t p;
          }

      -- They go on beyond the trace.
      pub our_rows : (slots reach : ℕ) (ins' lost' outs' starts : List ℕ) → slots ≡ length trace
          → ((a u : ℕ → ℕ) → 1 ≤ last_window table → Ended a u slots → Totals table a u slots ins lost outs → Totals table a u reach ins' lost' outs')
          → StartsTo table outs' reach starts reach → OurRows table d q trace reach ins' lost' outs' starts
      unfolding admitted_by departed_by departed
      our_rows slots reach ins' lost' outs' starts e on started =
          let some = settings.tabled.last_from in
          let totals = (rw e at on) (arrivals trace) X some trace_ended our_totals in
          record {
            permitted = ours_permitted (windows (envelope_of table)) closed D Q (arrivals trace) reach;
            admits = totals.admits;
            loses = totals.loses;
            departs = totals.departs;
            first = started X some totals.departs;
          }
