-- `set_up` judges, and sets the settings from the envelope.
use Rattle.std.proofs.Common.{◌≡◌, is_ok, refl, ap, sym, ◌∙◌, rules}
use Rattle.orders.proofs.Given.{given_none}
use Rattle.refusals.specs.Limits.{set_up_refusal}
use Rattle.refusals.proofs.AcceptedSettings.{set_up-table}
use Rattle.settings.specs.Taken.{taken_given}
use Rattle.settings.proofs.TakenTable.{take_ok}
use Rattle.orders.specs.Verdict.{Accepted}
use Rattle.regulator.specs.Regulator.{blank_row, set_up_given}
use Rattle.regulator.proofs.SlotAnswers.{set_up_given-refused, set_up-made}
use Rattle.regulator.proofs.regulator.set_up.Goals as goal

pub returns-in_err-set_up_refusal : goal.returns-in_err-set_up_refusal
returns-in_err-set_up_refusal c =
    let z = c.args in
    set_up_given-refused z.table.now z.delay.0 z.buffer.0 c.set_up_refusal.result c.from_residual.result
    c.in_err-set_up_refusal.field-0.0 c.set_up_refusal.ensures (search rules) (search rules)

pub unwrap-envelope-requires : goal.unwrap-envelope-requires
unwrap-envelope-requires c =
    let z = c.args in
    let none : set_up_refusal z.table.now z.delay.0 z.buffer.0 ≡ 0 = given_none c.set_up_refusal.result _ _ c.set_up_refusal.ensures (search rules) in
    ap is_ok (take_ok c.take.result z.table.now c.take.ensures (set_up-table z.table.now z.delay.0 z.buffer.0 none))

pub returns : goal.returns
unfolding set_up_given taken_given
returns c =
    let z = c.args in
    let none : set_up_refusal z.table.now z.delay.0 z.buffer.0 ≡ 0 = given_none c.set_up_refusal.result _ _ c.set_up_refusal.ensures (search rules) in
    set_up-made z.table.now z.delay.0 z.buffer.0 none (record { verdict = Accepted; envelope = c.unwrap-envelope.result })
    (sym (ap taken_given c.unwrap-envelope.ensures) ∙ c.take.ensures) c.near.result.packets blank_row c.near.ensures.0 refl
