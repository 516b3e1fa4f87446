-- What C is handed by a refused set-up takes no slot: every call on it gets 8 or 9 and no counts, and it is left as it was.
use mathlib.Core.Path.{◌≡◌, refl, ap, ◌∙◌}
use mathlib.Core.List.{List, [], ◌∷◌, map}
use Prim.Native.Nat.{ℕ}
use Rattle.orders.specs.Answered.{verdict_number}
use Rattle.refusals.specs.Limits.{slot_refusal}
use Rattle.live_step.specs.Answer.{Refused}
use Rattle.regulator.specs.Regulator.{set_up_of, no_regulator}
use Rattle.regulator.specs.LiveRun.{live_regulator}
use Rattle.regulator.specs.declared.regulator.Regulator.{Regulator}
use Rattle.regulator.proofs.NoRegulator.{no_regulator_refuses, set_up_gives_none}
use Rattle.device.specs.Device.{device_made, no_device}
use Rattle.device.specs.DeviceCalls.{device_machine}
use Rattle.device.specs.declared.device.Device.{Device}
use Rattle.device.proofs.NoDevice.{no_device_refuses, device_gives_none}
use Rattle.c_answers.specs.Numbered.{row_of, made_of}
use Rattle.c_answers.specs.declared.answer.SlotRow.{SlotRow}
use Rattle.exports.specs.NumberedDevice.{made_device_of}
use Rattle.c_promises.specs.CallsFromC.{RegulatorCall, DeviceCall, CallsFromC}
use Rattle.c_promises.specs.Rows.{refused_row}
use Rattle.c_promises.proofs.CallsFromC.{calls_answered, regulator_answered, device_answered}

-- Refusals told to C.
rows_refused : (number : ℕ → ℕ) (calls : List ℕ) → map row_of (map (λ n. Refused (number n)) calls) ≡ map (λ n. refused_row (number n)) calls
unfolding row_of refused_row
rows_refused number [] = refl
rows_refused number (n ∷ calls) = ap (λ (rows : List SlotRow). row_of (Refused (number n)) ∷ rows) (rows_refused number calls)

pub no_regulator_calls : (table : List ℕ) (d q : ℕ) → ((made_of (set_up_of table d q)).number ≡ 0 → ⊥) → (calls : List ℕ) (rows : List SlotRow) (left : Regulator)
    → CallsFromC RegulatorCall (made_of (set_up_of table d q)).regulator calls rows left
    → (rows ≡ map (λ n. refused_row (slot_refusal n 1000000)) calls) × (left ≡ (made_of (set_up_of table d q)).regulator)
unfolding made_of verdict_number
no_regulator_calls table d q numbered calls rows left called =
    let none : (set_up_of table d q).regulator ≡ no_regulator = set_up_gives_none table d q (λ e. numbered (ap verdict_number e)) in
    let (told, leaves) = calls_answered live_regulator RegulatorCall regulator_answered no_regulator calls rows left (rw none at called) in
    let (answered, _, same) = no_regulator_refuses calls in
    rw none (told ∙ ap (map row_of) answered ∙ rows_refused _ calls, leaves ∙ same)

pub no_device_calls : (profile : List ℕ) (d q : ℕ) → ((made_device_of (device_made profile d q)).number ≡ 0 → ⊥) → (calls : List ℕ) (rows : List SlotRow) (left : Device)
    → CallsFromC DeviceCall (made_device_of (device_made profile d q)).device calls rows left
    → (rows ≡ map (λ n. refused_row (slot_refusal n 1000000)) calls) × (left ≡ (made_device_of (device_made profile d q)).device)
unfolding made_device_of verdict_number
no_device_calls profile d q numbered calls rows left called =
    let none : (device_made profile d q).device ≡ no_device = device_gives_none profile d q (λ e. numbered (ap verdict_number e)) in
    let (told, leaves) = calls_answered device_machine DeviceCall device_answered no_device calls rows left (rw none at called) in
    let (answered, _, same) = no_device_refuses calls in
    rw none (told ∙ ap (map row_of) answered ∙ rows_refused _ calls, leaves ∙ same)
