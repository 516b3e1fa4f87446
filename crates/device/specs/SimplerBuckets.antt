-- The bound by simpler buckets (document 02, 2.6), for slot calls: one list of calls, refused ones included, given to a device and to
-- each of the devices that have one of its buckets, with the same limits.
use Rattle.std.specs.Prelude.{◌≡◌, ℕ, ◌-◌, ◌≤◌, ◌<◌, List, [], ◌∷◌, map, length}
use Rattle.bucket_calculus.specs.Sum.{sum_through}
use Rattle.calculus.specs.Regulators.Trace.{sum_to}
use Rattle.orders.specs.Verdict.{Accepted}
use Rattle.calls.specs.Calls.{answers, trace_of, dropped_in, number_of}
use Rattle.live_step.specs.Answer.{SlotAnswer}
use Rattle.device.specs.Profile.{rate_of, burst_of, bucket_count}
use Rattle.device.specs.Device.{device_made}
use Rattle.device.specs.DeviceCalls.{device_machine}

-- bucket i alone
unfoldable pub bucket_alone : List ℕ → ℕ → List ℕ
bucket_alone profile i = rate_of profile i ∷ burst_of profile i ∷ []

-- what a device of the profile answers to the calls, and its loss by slot t, summed from the answers
unfoldable pub device_answers : List ℕ → ℕ → ℕ → List ℕ → List SlotAnswer
device_answers profile d q calls = answers device_machine (device_made profile d q).device calls

unfoldable pub loss_answered : List ℕ → ℕ → ℕ → List ℕ → ℕ → ℕ
loss_answered profile d q calls t = sum_to (dropped_in (device_answers profile d q calls)) t

pub record BoundedByBuckets (profile : List ℕ) (d q : ℕ) (calls : List ℕ) : Type 0 where
  -- Each one-bucket device is accepted, and gives every call the number that the device gives it.
  pub alone_accepted : (i : ℕ) → i < bucket_count profile → (device_made (bucket_alone profile i) d q).verdict ≡ Accepted
  pub alone_numbered : (i : ℕ) → i < bucket_count profile
      → map number_of (device_answers (bucket_alone profile i) d q calls) ≡ map number_of (device_answers profile d q calls)
  -- After every slot the loss of the device is at least that of each one-bucket device ..
  pub at_least_each : (i t : ℕ) → i < bucket_count profile → t ≤ length (trace_of calls) → loss_answered (bucket_alone profile i) d q calls t ≤ loss_answered profile d q calls t
  -- .. and at most the sum of them.
  pub at_most_sum : (t : ℕ) → t ≤ length (trace_of calls)
      → loss_answered profile d q calls t ≤ sum_through (bucket_count profile - 1) (λ i. loss_answered (bucket_alone profile i) d q calls t)
