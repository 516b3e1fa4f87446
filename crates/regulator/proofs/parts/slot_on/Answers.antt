-- `slot_on` takes a step on the lent parts, or leaves them.
use mathlib.Core.Path.{◌≡◌, refl, sym, ap, ◌∙◌}
use Rattle.std.proofs.Common.{Err}
use native.Mathlib.Omega.{arith}
use Rattle.refusals.specs.Limits.{delay_limit, buffer_limit, slot_refusal}
use Rattle.orders.specs.Answered.{refusal_number, number_given}
use Rattle.orders.proofs.Given.{refusal_numbered, given_number, given_none}
use Rattle.live_step.specs.Answer.{answer_given}
use Rattle.refusals.proofs.AcceptedSettings.{slots-accepted}
use Rattle.live_step.proofs.StepFills.{step_fills}
use Rattle.regulator.specs.Regulator.{regulator_of}
use Rattle.regulator.proofs.SlotAnswers.{slot_eight, slot_nine, slot_on_given, slot_on-counted}
use borrow.Author.Rules.{rules}
use Rattle.regulator.proofs.parts.slot_on.Goals as goal

pub returns-in_err-arrivals_refusal : goal.returns-in_err-arrivals_refusal
unfolding number_given
returns-in_err-arrivals_refusal c =
    let z = c.args in
    let eight = c.arrivals_refusal in
    let answered = c.from_residual.result in
    let refusal = c.in_err-arrivals_refusal.field-0.0 in
    let told : answered ≡ Err refusal = search rules in
    let number = slot_eight z.arrivals z.slots.now (refusal_number refusal) (refusal_numbered refusal) (given_number eight.result refusal _ eight.ensures (search rules)) in
    slot_on_given (regulator_of z.last z.delay z.buffer z.near.now z.slots.now z.admitted.now z.form_peak.now z.bench_peak.now z.row.now) z.arrivals
    answered answered refusal (ap number_given told ∙ number) told told

pub returns-in_err-slots_refusal : goal.returns-in_err-slots_refusal
unfolding number_given
returns-in_err-slots_refusal c =
    let z = c.args in
    let eight = c.arrivals_refusal in
    let nine = c.slots_refusal in
    let answered = c.from_residual-in_err-slots_refusal.result in
    let refusal = c.in_err-slots_refusal.field-0.0 in
    let told : answered ≡ Err refusal = search rules in
    let few = given_none eight.result _ _ eight.ensures (search rules) in
    let number = slot_nine z.arrivals z.slots.now _ (refusal_number refusal) few refl (given_number nine.result refusal _ nine.ensures (search rules)) in
    slot_on_given (regulator_of z.last z.delay z.buffer z.near.now z.slots.now z.admitted.now z.form_peak.now z.bench_peak.now z.row.now) z.arrivals
    answered answered refusal (ap number_given told ∙ number) told told

pub raise_peaks-requires : goal.raise_peaks-requires
raise_peaks-requires c =
    let z = c.args in
    let step = c.step-totals in
    let counted = c.record_of-counted in
    step_fills _ (delay_limit z.delay) (buffer_limit z.buffer) z.near.now z.row.now z.admitted.now z.arrivals
    step.result _ step.ensures _ counted.result (search rules) counted.ensures

pub returns : goal.returns
unfolding answer_given
returns c =
    let counted = c.record_of-counted in
    let step = c.step-totals in
    let z = c.args in
    let few = given_none c.arrivals_refusal.result _ _ c.arrivals_refusal.ensures (search rules) in
    let left = given_none c.slots_refusal.result _ _ c.slots_refusal.ensures (search rules) in
    let none : slot_refusal z.arrivals z.slots.now ≡ 0 = sym (slot_nine z.arrivals z.slots.now _ 0 few refl (sym left)) in
    slot_on-counted (regulator_of z.last z.delay z.buffer z.near.now z.slots.now z.admitted.now z.form_peak.now
    z.bench_peak.now z.row.now) z.arrivals none step.result _ (rw c.min-used.ensures at step.ensures)
    counted.result _ _ counted.ensures c.raise_peaks.ensures.0 c.raise_peaks.ensures.1

pub overflow_add-slots : goal.overflow_add-slots
overflow_add-slots c =
    let left = given_none c.slots_refusal.result _ _ c.slots_refusal.ensures (search rules) in
    omega (arith, slots-accepted c.args.slots.now left)
