-- The links that `certify` leaves, beside the lists that an accepted run leaves for the same set-up and trace.
use mathlib.Core.Path.{◌≡◌, sym, ap, ◌∙◌}
use mathlib.Core.List.{List}
use Prim.Native.Nat.{ℕ, zero, suc, ◌+◌, ◌≤◌}
use native.Mathlib.Omega.{arith}
use lib.ListN.{length}
use Rattle.calculus.specs.Regulators.Trace.{arrivals, sum_to, slot_totals}
use Rattle.calculus.specs.Regulators.Rows.{envelope_of, admitted_by, departed_by}
use Rattle.calculus.specs.Losses.LossCurve.{LowestLoss}
use Rattle.calculus.specs.Losses.Permitted.{Quiet}
use Rattle.calculus.specs.Numbers.Limit.{at_most}
use Rattle.calculus.specs.Envelopes.Envelope.{windows, ClosedEnvelope}
use Rattle.calculus.proofs.Numbers.Lists.{length-list_of, list_of_at}
use Rattle.certificate_calculus.specs.Certificate.{at_slot, links_of, Counts}
use Rattle.certificate_calculus.proofs.OursCertified.{ours_certified, ours_counts}
use Rattle.certificate_calculus.proofs.AgreeingTotals.{certified_alike}
use Rattle.orders.specs.Answered.{unless_refused}
use Rattle.orders.specs.Refusal.{◌or_else◌}
use Rattle.refusals.specs.Limits.{delay_limit, buffer_limit, set_up_refusal}
use Rattle.refusals.specs.Lengths.{length_refusal, lists_refusal, counts_refusal}
use Rattle.orders.specs.Verdict.{Verdict, Accepted}
use Rattle.orders.proofs.Refusals.{or_else_none}
use Rattle.refusals.proofs.AcceptedSettings.{set_up-accepted, envelope_closed}
use Rattle.refusals.specs.WholeTrace.{trace_refusal, run_refusal}
use Rattle.trace.specs.WholeTrace.{Ran}
use Rattle.trace.proofs.RunAnswer.{AcceptedRun, run-accepted}
use Rattle.trace.proofs.RunLowestLoss.{run-lowest-loss}
use Rattle.certificate.specs.Claim.{claim_of, CertifiedClaim}
use Rattle.found_links.specs.Given.{Listed, our_links, Given}
use Rattle.certificate.specs.Checked.{certificate_refusal}
use Rattle.certificate.proofs.AgreeingCounts.{counts_alike}
use Rattle.certificate.proofs.ClaimRows.{accepted_claim}

-- The number of slot t stands at its place.
slot_at : (h : ℕ → ℕ) (T t : ℕ) → 1 ≤ t → t ≤ T → at_slot (slot_totals h T) t ≡ h t
unfolding arrivals slot_totals
slot_at h T zero p within = absurd (omega arith)
slot_at h T (suc t) p within = list_of_at (λ k. h (suc k)) T t within

slots_long : (h : ℕ → ℕ) (T : ℕ) → length (slot_totals h T) ≡ T
unfolding slot_totals
slots_long h T = length-list_of (λ k. h (suc k)) T

-- A trace that a run takes has counts that get no number.
run-counted : (table : List ℕ) (d q : ℕ) (trace : List ℕ) (one two three : ℕ) → run_refusal table d q trace one two three ≡ 0 → counts_refusal trace ≡ 0
unfolding run_refusal trace_refusal
run-counted table d q trace one two three e =
    let (_, traced) = or_else_none (set_up_refusal table d q) _ e in
    let (_, rest) = or_else_none (length_refusal (length trace)) _ traced in
    (or_else_none (lists_refusal (length trace) one or_else lists_refusal (length trace) two or_else lists_refusal (length trace) three) _ rest).1

module _ (table : List ℕ) (d q : ℕ) (trace ins drops outs : List ℕ) (verdict : Verdict) (ins' drops' outs' : List ℕ)
    (ran : Ran table d q trace ins drops outs verdict ins' drops' outs') (yes₀ : verdict ≡ Accepted) (from by gone : List ℕ) (answer : ℕ) (from' by' gone' : List ℕ)
    (given : Given table d q trace from by gone answer from' by' gone') (none : answer ≡ 0) where
  abbrev T : ℕ
  T = length trace

  number_none : run_refusal table d q trace (length from) (length by) (length gone) ≡ 0
  number_none = sym given.answered ∙ none

  ok : AcceptedRun table d q trace (length from) (length by) (length gone)
  ok = run-accepted table d q trace (length from) (length by) (length gone) number_none

  lowest : LowestLoss (windows (envelope_of table)) (delay_limit d) (buffer_limit q) trace ins' drops' outs'
  lowest = run-lowest-loss table d q trace ins drops outs verdict ins' drops' outs' ran yes₀

  -- The lists are filled with the found links.
  lists_given : Listed (our_links table d q trace) T from' by' gone'
  unfolding unless_refused
  lists_given = (rw number_none at given.from_filled, rw number_none at given.by_filled, rw number_none at given.gone_filled)

  pub run-refusal : certificate_refusal (claim_of table d q trace ins' outs' from' by' gone') ≡ 0
  run-refusal =
      let (ef, eb, eg) = lists_given in
      accepted_claim _
      (record {
        set_up = ok.set_up;
        short = ok.traced.short;
        long_admitted = lowest.long_ins;
        long_departed = lowest.long_outs;
        long_from = ap length ef ∙ slots_long _ T;
        long_by = ap length eb ∙ slots_long _ T;
        long_gone = ap length eg ∙ slots_long _ T;
        counted = run-counted table d q trace (length from) (length by) (length gone) number_none;
      })

  -- The lists name the found links, slot by slot.
  links_given : (t : ℕ) → 1 ≤ t → t ≤ T → (at_slot from' t ≡ (our_links table d q trace).admitted_from t) × (at_slot by' t ≡ (our_links table d q trace).admitted_by t)
      × (at_slot gone' t ≡ (our_links table d q trace).departed_from t)
  links_given t p within =
      let (ef, eb, eg) = lists_given in
      (ap (λ (l : List ℕ). at_slot l t) ef ∙ slot_at _ T t p within, ap (λ (l : List ℕ). at_slot l t) eb ∙ slot_at _ T t p within, ap (λ (l : List ℕ). at_slot l t) eg ∙ slot_at _ T t p within)

  closed : ClosedEnvelope (windows (envelope_of table))
  closed = envelope_closed table d q (set_up-accepted table d q ok.set_up)

  pub run_links : Quiet (delay_limit d) (arrivals trace) (length trace) → CertifiedClaim (claim_of table d q trace ins' outs' from' by' gone')
  unfolding admitted_by departed_by
  run_links quiet =
      certified_alike (envelope_of table) (delay_limit d) (buffer_limit q) (arrivals trace) T _ (sum_to ins') _ (sum_to outs') (our_links table d q trace) _
      (λ t p. sym (lowest.admitted_total t p)) (λ t p. sym (lowest.departed_total t p)) links_given lowest.permitted
      (ours_certified (envelope_of table) closed (delay_limit d) (buffer_limit q) (arrivals trace) T quiet)

  pub run-slots : (n : ℕ) → delay_limit d ≡ at_most n → (t : ℕ) → t + n ≤ length trace
      → Counts (envelope_of table) (delay_limit d) (buffer_limit q) (arrivals trace) (length trace) (sum_to ins') (links_of from' by' gone') t
  unfolding admitted_by departed_by
  run-slots n limit t due =
      counts_alike (envelope_of table) (delay_limit d) (buffer_limit q) (arrivals trace) T _ (sum_to ins') (our_links table d q trace) _ t
      (λ k p. sym (lowest.admitted_total k (omega arith))) (λ k one p. let (from_is, by-is, _) = links_given k one (omega arith) in (from_is, by-is))
      (ours_counts (envelope_of table) closed (delay_limit d) (buffer_limit q) (arrivals trace) T n limit t due)
