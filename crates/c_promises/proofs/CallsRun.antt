-- Demands 1, 2 and 3 over what C gets: a list of slot calls from a set-up that gave 0, each call through any of its functions.
use mathlib.Core.Path.{◌≡◌, refl}
use mathlib.Core.List.{List}
use Prim.Native.Nat.{ℕ, zero, suc}
use native.Mathlib.Omega.{arith}
use Rattle.orders.specs.Verdict.{Accepted}
use Rattle.orders.specs.Answered.{verdict_number}
use Rattle.refusals.specs.Limits.{set_up_refusal, slot_refusal}
use Rattle.regulator.specs.Regulator.{set_up_by, set_up_of, slot_of, record_of}
use Rattle.live_step.specs.Answer.{answer_by}
use Rattle.regulator.specs.LiveRun.{live_regulator}
use Rattle.regulator.specs.declared.regulator.Regulator.{Regulator}
use Rattle.regulator.proofs.LiveLowestLoss.{live_run}
use Rattle.device.specs.Profile.{device_refusal}
use Rattle.device.specs.Device.{device_made_by, device_made, device_slot_of, device_record}
use Rattle.device.specs.DeviceCalls.{device_machine}
use Rattle.device.specs.declared.device.Device.{Device}
use Rattle.device.proofs.DeviceLowestLoss.{device_run}
use Rattle.c_answers.specs.Numbered.{made_of}
use Rattle.exports.specs.NumberedDevice.{made_device_of}
use Rattle.c_answers.specs.declared.answer.SlotRow.{SlotRow}
use Rattle.c_promises.specs.CallsFromC.{RegulatorCall, DeviceCall, CallsFromC}
use Rattle.c_promises.specs.CallsRun.{LiveCalls, DeviceCalls}
use Rattle.c_promises.proofs.Rows.{rows_run}
use Rattle.c_promises.proofs.CallsFromC.{calls_answered, regulator_answered, device_answered}

-- A set-up that gets 0 is accepted.
made-accepted : (k : ℕ) (table : List ℕ) (d q : ℕ) → (made_of (set_up_by k table d q)).number ≡ 0 → (set_up_by k table d q).verdict ≡ Accepted
unfolding made_of set_up_by verdict_number
made-accepted zero table d q e = refl
made-accepted (suc k) table d q e = absurd (omega arith)

made_device-accepted : (k : ℕ) (profile : List ℕ) (d q : ℕ) → (made_device_of (device_made_by k profile d q)).number ≡ 0 → (device_made_by k profile d q).verdict ≡ Accepted
unfolding made_device_of device_made_by verdict_number
made_device-accepted zero profile d q e = refl
made_device-accepted (suc k) profile d q e = absurd (omega arith)

live-answers : (r : Regulator) (n : ℕ) → live_regulator.answer r n ≡ answer_by (slot_refusal n r.slots.0) (record_of r n)
unfolding live_regulator slot_of
live-answers r n = refl

device-answers : (s : Device) (n : ℕ) → device_machine.answer s n ≡ answer_by (slot_refusal n s.slots.0) (device_record s n)
unfolding device_machine device_slot_of
device-answers s n = refl

-- On a regulator.
pub live_calls : (table : List ℕ) (d q : ℕ) → (made_of (set_up_of table d q)).number ≡ 0 → (calls : List ℕ) (rows : List SlotRow) (left : Regulator)
    → CallsFromC RegulatorCall (made_of (set_up_of table d q)).regulator calls rows left → LiveCalls table d q (set_up_of table d q).regulator calls rows left
unfolding made_of set_up_of
live_calls table d q zeroed calls rows left called =
    let run = live_run table d q (made-accepted (set_up_refusal table d q) table d q zeroed) calls in
    let (told, leaves) = calls_answered live_regulator RegulatorCall regulator_answered (set_up_of table d q).regulator calls rows left called in
    record {
      told = rw told (rows_run live_regulator (λ r n. slot_refusal n r.slots.0) record_of live-answers _ _ _ _ calls run.run);
      leaves = leaves;
      live = run;
    }

-- On a device.
pub device_calls : (profile : List ℕ) (d q : ℕ) → (made_device_of (device_made profile d q)).number ≡ 0 → (calls : List ℕ) (rows : List SlotRow) (left : Device)
    → CallsFromC DeviceCall (made_device_of (device_made profile d q)).device calls rows left → DeviceCalls profile d q (device_made profile d q).device calls rows left
unfolding made_device_of device_made
device_calls profile d q zeroed calls rows left called =
    let run = device_run profile d q (made_device-accepted (device_refusal profile d q) profile d q zeroed) calls in
    let (told, leaves) = calls_answered device_machine DeviceCall device_answered (device_made profile d q).device calls rows left called in
    record {
      told = rw told (rows_run device_machine (λ s n. slot_refusal n s.slots.0) device_record device-answers _ _ _ _ calls run.run);
      leaves = leaves;
      live = run;
    }
