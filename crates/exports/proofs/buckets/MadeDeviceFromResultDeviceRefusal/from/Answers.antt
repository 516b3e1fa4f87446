-- C's struct of a set-up goes by cases as its definition does.
use Rattle.std.proofs.Common.{ap, sym, Result}
use Rattle.orders.specs.declared.refusal.Refusal.{Refusal}
use Rattle.orders.specs.Answered.{verdict_number}
use Rattle.device.specs.declared.device.Device.{Device}
use Rattle.device.specs.Device.{device_set_up_given}
use Rattle.exports.specs.NumberedDevice.{made_device_of}
use Rattle.exports.proofs.buckets.MadeDeviceFromResultDeviceRefusal.from.Goals as goal

pub returns-in-Ok : goal.returns-in-Ok
unfolding made_device_of device_set_up_given verdict_number
returns-in-Ok c = ap (λ (given : Result Device Refusal). made_device_of (device_set_up_given given)) (sym c.in-Ok.is)

pub returns-in-Err : goal.returns-in-Err
unfolding made_device_of device_set_up_given verdict_number
returns-in-Err c =
    rw (c.number.ensures, c.no_device.ensures) (ap (λ (given : Result Device Refusal). made_device_of (device_set_up_given given)) (sym c.in-Err.is))
