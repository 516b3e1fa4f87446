-- A list of slot calls from C on one regulator, or on one device (document 01, "The lowest loss curve"): each call gets what the call
-- before left, and nobody else writes to it meanwhile. A call is told by its contract alone: the row that C gets and what is left.
use Rattle.std.specs.Prelude.{◌≡◌, List, [], ◌∷◌, ℕ}
use Rattle.regulator.specs.Regulator.{slot_of, regulator_of}
use Rattle.regulator.specs.declared.regulator.Regulator.{Regulator}
use Rattle.device.specs.Device.{device_of}
use Rattle.device.specs.declared.device.Device.{Device}
use Rattle.c_answers.specs.Numbered.{row_of, RowOn}
use Rattle.exports.specs.NumberedDevice.{DeviceRowOn}
use Rattle.c_answers.specs.declared.answer.SlotRow.{SlotRow}

-- a regulator's settings with the parts that a slot may change
abbrev pub with_parts : Regulator → ℕ → ℕ → ℕ → ℕ → List ℕ → Regulator
with_parts r = regulator_of r.settings.last.0 r.settings.delay.0 r.settings.buffer.0 r.settings.near

-- one call with n arrivals, through `bezhantiru_slot` or, part by part, through `bezhantiru_slot_on`
pub data RegulatorCall (r : Regulator) (n : ℕ) (a : SlotRow) (next : Regulator) : Type 0 where
  slot : a ≡ row_of (slot_of r n).answer → next ≡ (slot_of r n).regulator → RegulatorCall r n a next
  slot_on : {slots x form bench : ℕ} {row : List ℕ} → RowOn (with_parts r r.slots.0 r.admitted.0 r.form_peak.0 r.bench_peak.0 r.row) n a slots x form bench row
      → next ≡ with_parts r slots x form bench row → RegulatorCall r n a next

-- a device's settings with the parts that a slot may change
abbrev pub with_device_parts : Device → ℕ → ℕ → ℕ → List ℕ → ℕ → ℕ → Device
with_device_parts s = device_of s.settings.buckets s.settings.delay.0 s.settings.buffer.0 s.settings.rates s.settings.bursts

-- one call with n arrivals through `bezhantiru_device_slot_on`
pub data DeviceCall (s : Device) (n : ℕ) (a : SlotRow) (next : Device) : Type 0 where
  device_slot_on : {slots x y : ℕ} {levels : List ℕ} {form bench : ℕ}
      → DeviceRowOn (with_device_parts s s.slots.0 s.admitted.0 s.departed.0 s.levels s.form_peak.0 s.bench_peak.0) n a slots x y levels form bench
      → next ≡ with_device_parts s slots x y levels form bench → DeviceCall s n a next

-- a list of calls: their arrivals, the rows that C gets, and what is left
pub data CallsFromC {S : Type 0} (Call : S → ℕ → SlotRow → S → Type 0) : S → List ℕ → List SlotRow → S → Type 0 where
  done : {s : S} → CallsFromC Call s [] [] s
  call : {s next left : S} {n : ℕ} {a : SlotRow} {calls : List ℕ} {rows : List SlotRow} → Call s n a next → CallsFromC Call next calls rows left
      → CallsFromC Call s (n ∷ calls) (a ∷ rows) left
