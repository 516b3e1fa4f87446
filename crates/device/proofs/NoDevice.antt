-- A refused set-up gives no device: what stands for it refuses every slot, and no list of calls changes it.
use mathlib.Core.Path.{◌≡◌, refl}
use mathlib.Core.List.{List, [], map}
use Prim.Native.Nat.{ℕ, zero, suc, ◌≤◌}
use native.Mathlib.Omega.{arith}
use Rattle.orders.specs.Verdict.{Accepted}
use Rattle.refusals.specs.Limits.{slot_refusal}
use Rattle.live_step.specs.Answer.{Refused}
use Rattle.calls.specs.Calls.{answers, after, counted}
use Rattle.calls.proofs.SpentMachine.{spent-answers, spent_left, spent_none}
use Rattle.device.specs.Profile.{device_refusal}
use Rattle.device.specs.Device.{no_device, device_made_by, device_made}
use Rattle.device.specs.DeviceCalls.{device_machine}
use Rattle.device.proofs.DeviceFollows.{device_takes}

-- 1,000,000 slots are already taken.
no_device_spent : device_machine.slots no_device ≡ 1000000
unfolding device_machine no_device
no_device_spent = refl

no_device_full : 1000000 ≤ device_machine.slots no_device
no_device_full = omega (arith, no_device_spent)

-- Every call on it is refused, with 8 for more than 1,000,000 arrivals and else 9; no slot is answered; it stays as it was.
pub no_device_refuses : (calls : List ℕ)
    → (answers device_machine no_device calls ≡ map (λ n. Refused (slot_refusal n 1000000)) calls)
    × (counted (answers device_machine no_device calls) ≡ []) × (after device_machine no_device calls ≡ no_device)
no_device_refuses calls = (
  rw no_device_spent at (spent-answers device_machine device_takes no_device no_device_full calls),
  spent_none device_machine device_takes no_device no_device_full calls,
  spent_left device_machine device_takes no_device no_device_full calls,
)

-- That is what a refused set-up gives.
pub device_gives_none : (profile : List ℕ) (d q : ℕ) → ((device_made profile d q).verdict ≡ Accepted → ⊥) → (device_made profile d q).device ≡ no_device
unfolding device_made
device_gives_none profile d q refused = judged (device_refusal profile d q) refused
  where
    judged : (k : ℕ) → ((device_made_by k profile d q).verdict ≡ Accepted → ⊥) → (device_made_by k profile d q).device ≡ no_device
    judged zero refused = absurd (refused (unfold device_made_by in refl))
    judged (suc k) refused = unfold device_made_by in refl
