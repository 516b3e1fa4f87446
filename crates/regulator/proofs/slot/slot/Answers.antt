-- `slot` works on the past by itself and puts it back, and keeps that only where it is not refused.
use mathlib.Core.Path.{◌≡◌, refl, sym, ap, ◌∙◌}
use mathlib.Core.List.{List, ◌++◌}
use Prim.Native.Nat.{ℕ, ◌≤◌, max}
use native.Mathlib.Omega.{arith}
use lib.ListN.{length, take, drop, set}
use Rattle.numbers.specs.declared.count.Slots.{Slots}
use Rattle.numbers.specs.declared.count.Packets.{Packets}
use Rattle.refusals.specs.Limits.{delay_limit, buffer_limit}
use Rattle.regulator.specs.Regulator.{last_of, Step}
use Rattle.orders.proofs.Given.{number_of_is_ok, number_of_not_ok}
use Rattle.live_step.specs.Answer.{answer_given}
use Rattle.std.proofs.Common.{rules, IsOk, is_ok, false}
use Rattle.least_sum.specs.Pushed.{pushed}
use Rattle.live_step.specs.PastPart.{SamePlaces}
use Rattle.live_step.specs.Record.{record_by}
use Rattle.orders.specs.Answered.{number_given, unless_refused}
use Rattle.live_step.proofs.StepTotals.{step-made, forecast-past, late-past}
use Rattle.regulator.proofs.RowAfterSlot.{taken_places, past_long, put_in, row_moved}
use Rattle.regulator.proofs.SlotAnswers.{kept-accepted, kept_refused, kept-slots, kept-packets, kept_slots-more, answer_kept, slot-made}
use Rattle.refusals.proofs.AcceptedSettings.{slot-accepted}
use Rattle.regulator.proofs.slot.slot.Goals as goal
use Rattle.regulator.proofs.slot.slot.Goals.{then-is_ok, else-is_ok, then-is_ok-2, else-is_ok-2}

pub returns : goal.returns
returns c =
    let z = c.args in
    let r = z.r in
    let judged = c.slot_refusal-judged.result in
    let k = number_given judged in
    let judged_none : IsOk judged → k ≡ 0 = number_of_is_ok judged k refl in
    let judged_some : is_ok judged ≡ false → (k ≡ 0 → ⊥) = number_of_not_ok judged k refl in
    let most : last_of r ≤ 64 = omega arith in
    let last = c.min-last.ensures in
    let past = c.copy_from_slice.new.self in
    let taken : past ≡ take 64 r.row = c.copy_from_slice.ensures.after in
    let wide : 64 ≤ length r.row = omega arith in
    let same : SamePlaces 64 past r.row = taken_places r.row past wide taken in
    let soon = rw last at c.forecast-soon.ensures in
    let late = rw last at c.forecast_late-late.ensures in
    let early = c.forecast-soon.result in
    let due = c.forecast_late-late.result in
    let departed = c.admit-totals.result.departed in
    let moved = c.if-is_ok.past in
    let pushes : moved ≡ unless_refused k (pushed (last_of r) departed past) past =
    elim c.if-is_ok.branch [
      | then-is_ok w ↦ w.past-is ∙ (rw last at w.push.ensures) ∙ kept-accepted k _ _ (judged_none (search rules))
      | else-is_ok w ↦ w.past-is ∙ kept_refused k _ _ (judged_some (search rules))
    ] in
    let back : List ℕ = c.copy_from_slice-2.new.self ++ drop 64 r.row in
    let put : back ≡ moved ++ drop 64 r.row = ap (λ (l : List ℕ). l ++ drop 64 r.row) c.copy_from_slice-2.ensures.after in
    let row = c.if-is_ok-2.row in
    let told : row ≡ unless_refused k (set (set back 64 early) 65 due) back =
    elim c.if-is_ok-2.branch [
      | then-is_ok-2 w ↦ w.row-is ∙ kept-accepted k _ _ (judged_none (search rules))
      | else-is_ok-2 w ↦ w.row-is ∙ kept_refused k _ _ (judged_some (search rules))
    ] in
    let made = slot-made r z.arrivals.0 c.admit-totals.result _
    (step-made (last_of r) (delay_limit r.settings.delay.0) (buffer_limit r.settings.buffer.0) r.settings.near r.row
    r.admitted.0 z.arrivals.0 early due _ c.admit-totals.result _
    (soon ∙ forecast-past (last_of r) r.settings.near past r.row 0 most same)
    (late ∙ late-past (last_of r) (delay_limit r.settings.delay.0) r.settings.near past r.row most same)
    (same.same 0 (omega arith)) c.admit-totals.ensures refl)
    k c.kept.result.0 c.kept-2.result.0 c.kept-3.result.0 c.kept-4.result.0 row c.record_of-counted.result (answer_given c.map.result)
    c.slot_refusal-judged.ensures
    (c.record_of-counted.ensures ∙ ap (λ (y : ℕ). record_by c.admit-totals.result.admitted departed r.admitted.0 y z.arrivals.0) (same.same 0 (omega arith)))
    (ap (λ (s : Slots). s.0) c.kept.ensures ∙ kept-slots k _ _
    ∙ kept_slots-more k r.slots.0 c.saturating_add.result (λ e. (slot-accepted z.arrivals.0 r.slots.0 (sym c.slot_refusal-judged.ensures ∙ e)).1) c.saturating_add.ensures)
    (ap (λ (p : Packets). p.0) c.kept-2.ensures ∙ kept-packets k _ _)
    (ap (λ (p : Packets). p.0) c.kept-3.ensures ∙ kept-packets k _ _
    ∙ ap (λ (p : ℕ). unless_refused k p r.form_peak.0) (c.max-form.ensures ∙ ap (max r.form_peak.0) c.form_fill.ensures))
    (ap (λ (p : Packets). p.0) c.kept-4.ensures ∙ kept-packets k _ _
    ∙ ap (λ (p : ℕ). unless_refused k p r.bench_peak.0) (c.max-bench.ensures ∙ ap (max r.bench_peak.0) c.bench_fill.ensures))
    (row_moved k (last_of r) departed early due past moved r.row back row most same pushes
    (put_in moved r.row back wide (past_long k (last_of r) departed past moved pushes same.long) put) told)
    (answer_kept judged c.map.result c.record_of-counted.result (search (rules, c.map.ensures.cases))) in
    (ap (λ (s : Step). s.answer) made, ap (λ (s : Step). s.regulator) made)
