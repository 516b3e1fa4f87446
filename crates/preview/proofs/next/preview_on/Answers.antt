-- `preview_on` admits twice by the same forecasts: of what arrives, and of 1,000,000.
use mathlib.Core.Path.{◌≡◌, refl, sym}
use Rattle.refusals.specs.Limits.{slot_refusal}
use Rattle.regulator.specs.Regulator.{regulator_of}
use Rattle.regulator.proofs.SlotAnswers.{slot_eight, slot_nine}
use Rattle.orders.specs.Answered.{refusal_number}
use Rattle.orders.proofs.Given.{refusal_numbered, given_number, given_none}
use Rattle.preview.specs.Preview.{preview_given}
use Rattle.preview.proofs.PreviewForetells.{preview_given-refused, preview_told}
use borrow.Author.Rules.{rules}
use Rattle.preview.proofs.next.preview_on.Goals as goal

pub returns-in_err-arrivals_refusal : goal.returns-in_err-arrivals_refusal
returns-in_err-arrivals_refusal c =
    λ form bench.
    let z = c.args in
    let eight = c.arrivals_refusal in
    let refusal = c.in_err-arrivals_refusal.field-0.0 in
    preview_given-refused (regulator_of z.last z.delay z.buffer z.near.now z.slots z.admitted form bench z.row.now) z.arrivals
    c.from_residual.result refusal
    (slot_eight z.arrivals z.slots (refusal_number refusal) (refusal_numbered refusal) (given_number eight.result refusal _ eight.ensures (search rules)))
    (search rules)

pub returns-in_err-slots_refusal : goal.returns-in_err-slots_refusal
returns-in_err-slots_refusal c =
    λ form bench.
    let z = c.args in
    let eight = c.arrivals_refusal in
    let nine = c.slots_refusal in
    let refusal = c.in_err-slots_refusal.field-0.0 in
    let few = given_none eight.result _ _ eight.ensures (search rules) in
    preview_given-refused (regulator_of z.last z.delay z.buffer z.near.now z.slots z.admitted form bench z.row.now) z.arrivals
    c.from_residual-in_err-slots_refusal.result refusal
    (slot_nine z.arrivals z.slots _ (refusal_number refusal) few refl (given_number nine.result refusal _ nine.ensures (search rules)))
    (search rules)

pub returns : goal.returns
unfolding preview_given
returns c =
    λ form bench.
    let z = c.args in
    let few = given_none c.arrivals_refusal.result _ _ c.arrivals_refusal.ensures (search rules) in
    let left = given_none c.slots_refusal.result _ _ c.slots_refusal.ensures (search rules) in
    let none : slot_refusal z.arrivals z.slots ≡ 0 = sym (slot_nine z.arrivals z.slots _ 0 few refl (sym left)) in
    let both = c.forecasts_on-both.ensures in
    preview_told (regulator_of z.last z.delay z.buffer z.near.now z.slots z.admitted form bench z.row.now) z.arrivals
    c.forecasts_on-both.result.soon c.forecasts_on-both.result.late
    c.admit-totals.result c.admit-most.result c.record_of.result c.saturating_sub.result
    none both.0 both.1 c.admit-totals.ensures c.admit-most.ensures c.record_of.ensures c.saturating_sub.ensures
