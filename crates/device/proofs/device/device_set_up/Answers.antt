-- `device_set_up` judges, and sets the settings from the profile.
use Rattle.std.proofs.Common.{◌≡◌, arith, rules}
use Rattle.orders.proofs.Given.{given_none}
use Rattle.device.specs.Profile.{device_refusal}
use Rattle.device.specs.Device.{device_set_up_given}
use Rattle.device.proofs.DeviceSetUp.{set_up_refused, device-made, device-accepted}
use Rattle.device.proofs.device.device_set_up.Goals as goal

pub returns-in_err-device_refusal : goal.returns-in_err-device_refusal
returns-in_err-device_refusal c =
    let z = c.args in
    set_up_refused z.profile.now z.delay.0 z.buffer.0 c.device_refusal.result c.from_residual.result
    c.in_err-device_refusal.field-0.0 c.device_refusal.ensures (search rules) (search rules)

pub returns : goal.returns
unfolding device_set_up_given
returns c =
    let z = c.args in
    let none : device_refusal z.profile.now z.delay.0 z.buffer.0 ≡ 0 = given_none c.device_refusal.result _ _ c.device_refusal.ensures (search rules) in
    device-made z.profile.now z.delay.0 z.buffer.0 none _ _ _ c.rates_of-rates.ensures c.bursts_of-bursts.ensures
    c.full_levels-levels.ensures

pub overflow_cast-result : goal.overflow_cast-result
overflow_cast-result c =
    let z = c.args in
    let none : device_refusal z.profile.now z.delay.0 z.buffer.0 ≡ 0 = given_none c.device_refusal.result _ _ c.device_refusal.ensures (search rules) in
    omega (arith, (device-accepted z.profile.now z.delay.0 z.buffer.0 none).profiled.count_to)
