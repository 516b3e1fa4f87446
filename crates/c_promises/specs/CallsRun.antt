-- All that is claimed of a list of slot calls from C on a regulator or a device that a set-up gave: what C gets of them, and what is left.
use Rattle.std.specs.Prelude.{◌≡◌, List, ℕ}
use Rattle.calculus.specs.Regulators.Rows.{envelope_of}
use Rattle.refusals.specs.Limits.{delay_limit, buffer_limit}
use Rattle.calls.specs.Calls.{after}
use Rattle.regulator.specs.LiveRun.{live_regulator, LiveRun}
use Rattle.regulator.specs.declared.regulator.Regulator.{Regulator}
use Rattle.device.specs.Profile.{profile_envelope}
use Rattle.device.specs.DeviceCalls.{device_machine}
use Rattle.device.specs.DeviceRun.{DeviceRun}
use Rattle.device.specs.declared.device.Device.{Device}
use Rattle.c_answers.specs.declared.answer.SlotRow.{SlotRow}
use Rattle.c_promises.specs.Rows.{RowsRun}

-- r is what the set-up gave.
pub record LiveCalls (table : List ℕ) (d q : ℕ) (r : Regulator) (calls : List ℕ) (rows : List SlotRow) (left : Regulator) : Type 1 where
  pub told : RowsRun (envelope_of table) (delay_limit d) (buffer_limit q) calls rows
  -- The regulator that is left is the live regulator's, of which slots, total, peaks and past are known.
  pub leaves : left ≡ after live_regulator r calls
  pub live : LiveRun table d q r calls

pub record DeviceCalls (profile : List ℕ) (d q : ℕ) (s : Device) (calls : List ℕ) (rows : List SlotRow) (left : Device) : Type 1 where
  pub told : RowsRun (profile_envelope profile) (delay_limit d) (buffer_limit q) calls rows
  -- The device that is left is the device's, of which slots, totals, levels and peaks are known.
  pub leaves : left ≡ after device_machine s calls
  pub live : DeviceRun profile d q s calls
