-- The device's answers as numbers and values: the number for each case, 0 where nothing is refused, and its values.
use Rattle.std.specs.Prelude.{◌≡◌, ℕ, List}
use Rattle.device.specs.Device.{device_slot_of, DeviceSetUp}
use Rattle.device.specs.declared.device.Device.{Device}
use Rattle.orders.specs.Answered.{verdict_number}
use Rattle.c_answers.specs.Numbered.{row_of}
use Rattle.c_answers.specs.declared.answer.SlotRow.{SlotRow}
use Rattle.exports.specs.declared.buckets.MadeDevice.{MadeDevice}

-- A refused set-up gives the number and no device.
unfoldable pub made_device_of : DeviceSetUp → MadeDevice
made_device_of s = record { number = verdict_number s.verdict; device = s.device }

-- what a slot on lent parts of a device answers, and leaves in those that it may change
pub record DeviceRowOn (s : Device) (n : ℕ) (a : SlotRow) (slots x y : ℕ) (levels : List ℕ) (form bench : ℕ) : Type 0 where
  pub answers : a ≡ row_of (device_slot_of s n).answer
  pub takes : slots ≡ (device_slot_of s n).device.slots.0
  pub admits : x ≡ (device_slot_of s n).device.admitted.0
  pub departs : y ≡ (device_slot_of s n).device.departed.0
  pub raises : levels ≡ (device_slot_of s n).device.levels
  pub form_peaks : form ≡ (device_slot_of s n).device.form_peak.0
  pub bench_peaks : bench ≡ (device_slot_of s n).device.bench_peak.0
