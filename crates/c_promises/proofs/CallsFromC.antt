-- A list of slot calls from C is one on the machine: by the contracts of its functions alone, its rows are those of the machine's answers,
-- and what is left is the machine's state.
use mathlib.Core.Path.{◌≡◌, refl, ap, ap₂, ◌∙◌}
use mathlib.Core.List.{List, [], ◌∷◌, map}
use Prim.Native.Nat.{ℕ}
use Rattle.calls.specs.Calls.{Machine, answers, after}
use Rattle.regulator.specs.LiveRun.{live_regulator}
use Rattle.regulator.specs.declared.regulator.Regulator.{Regulator}
use Rattle.device.specs.DeviceCalls.{device_machine}
use Rattle.device.specs.declared.device.Device.{Device}
use Rattle.c_answers.specs.Numbered.{row_of}
use Rattle.c_answers.specs.declared.answer.SlotRow.{SlotRow}
use Rattle.exports.proofs.ByNumber.{row_on_whole, device-row_on_whole}
use Rattle.c_promises.specs.CallsFromC.{RegulatorCall, slot, slot_on, DeviceCall, device_slot_on, CallsFromC, done, call}

-- Calls that each answer the machine's row and leave its next state give its rows, and leave its state.
pub calls_answered : {S : Type 0} (m : Machine S) (Call : S → ℕ → SlotRow → S → Type 0)
    → ((s : S) (n : ℕ) (a : SlotRow) (next : S) → Call s n a next → (a ≡ row_of (m.answer s n)) × (next ≡ m.next s n))
    → (s : S) (calls : List ℕ) (rows : List SlotRow) (left : S) → CallsFromC Call s calls rows left
    → (rows ≡ map row_of (answers m s calls)) × (left ≡ after m s calls)
unfolding answers after
calls_answered m Call each s [] [] left done = (refl, refl)
calls_answered m Call each s [] (a ∷ rows) left taken = elim taken [ ]
calls_answered m Call each s (n ∷ calls) [] left taken = elim taken [ ]
calls_answered {S} m Call each s (n ∷ calls) (a ∷ rows) left (call {next = next} this others) =
    let (told, moved) = each s n a next this in
    let (rest, end) = calls_answered m Call each next calls rows left others in (
      ap₂ ◌∷◌ told (rest ∙ ap (λ (t : S). map row_of (answers m t calls)) moved),
      end ∙ ap (λ (t : S). after m t calls) moved,
    )

-- Either function answers the slot's row and leaves the slot's regulator,
pub regulator_answered : (r : Regulator) (n : ℕ) (a : SlotRow) (next : Regulator) → RegulatorCall r n a next
    → (a ≡ row_of (live_regulator.answer r n)) × (next ≡ live_regulator.next r n)
unfolding live_regulator
regulator_answered r n a next (slot told moved) = (told, moved)
regulator_answered r n a next (slot_on on moved) = (on.answers, moved ∙ row_on_whole r n a _ _ _ _ _ on)

-- and a device's function the device's.
pub device_answered : (s : Device) (n : ℕ) (a : SlotRow) (next : Device) → DeviceCall s n a next
    → (a ≡ row_of (device_machine.answer s n)) × (next ≡ device_machine.next s n)
unfolding device_machine
device_answered s n a next (device_slot_on on moved) = (on.answers, moved ∙ device-row_on_whole s n a _ _ _ _ _ _ on)
