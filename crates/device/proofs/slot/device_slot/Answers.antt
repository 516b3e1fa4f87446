-- `device_slot` takes its parts out and puts them together again.
use Rattle.std.proofs.Common.{ap}
use Rattle.device.specs.Device.{DeviceStep}
use Rattle.device.proofs.DeviceSlot.{slot_whole}
use Rattle.device.proofs.slot.device_slot.Goals as goal

pub returns : goal.returns
returns c =
    let z = c.args in
    let whole = slot_whole z.device z.arrivals.0 _ _ _ _ _ _ _ c.device_slot_on-answer.ensures in
    (ap (λ (s : DeviceStep). s.answer) whole, ap (λ (s : DeviceStep). s.device) whole)
