-- `device_slot_on` judges, takes a step and counts.
use mathlib.Core.Path.{◌≡◌, ap, ◌∙◌}
use Prim.Native.Nat.{max}
use native.Mathlib.Omega.{arith}
use borrow.Author.Rules.{rules}
use Rattle.refusals.specs.Limits.{slot_refusal}
use Rattle.refusals.proofs.AcceptedSettings.{slot-accepted}
use Rattle.orders.proofs.Given.{given_none}
use Rattle.live_step.specs.Answer.{answer_given}
use Rattle.device.specs.Device.{device_of}
use Rattle.device.proofs.DeviceSlot.{slot_on_given, slot_on-counted}
use Rattle.device.proofs.parts.device_slot_on.Goals as goal

pub returns-in_err-slot_refusal : goal.returns-in_err-slot_refusal
returns-in_err-slot_refusal c =
    let z = c.args in
    slot_on_given (device_of z.buckets z.delay z.buffer z.rates.now z.bursts.now z.slots.now z.admitted.now
    z.departed.now z.levels.now z.form_peak.now z.bench_peak.now) z.arrivals c.slot_refusal.result c.from_residual.result
    c.in_err-slot_refusal.field-0.0 c.slot_refusal.ensures (search rules) (search rules)

pub returns : goal.returns
unfolding answer_given
returns c =
    let z = c.args in
    let none : slot_refusal z.arrivals z.slots.now ≡ 0 = given_none c.slot_refusal.result _ _ c.slot_refusal.ensures (search rules) in
    slot_on-counted (device_of z.buckets z.delay z.buffer z.rates.now z.bursts.now z.slots.now z.admitted.now
    z.departed.now z.levels.now z.form_peak.now z.bench_peak.now) z.arrivals none
    c.bucket_step-totals.result _ c.bucket_step-totals.ensures
    c.record_of-counted.result c.record_of-counted.ensures _ _
    (c.max.ensures ∙ ap (max z.form_peak.now) c.form_fill.ensures)
    (c.max-2.ensures ∙ ap (max z.bench_peak.now) c.bench_fill.ensures)

pub overflow_add-slots : goal.overflow_add-slots
overflow_add-slots c =
    let z = c.args in
    let none : slot_refusal z.arrivals z.slots.now ≡ 0 = given_none c.slot_refusal.result _ _ c.slot_refusal.ensures (search rules) in
    omega (arith, (slot-accepted z.arrivals z.slots.now none).1)
