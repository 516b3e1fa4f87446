-- Demands 1, 2 and 3 for the device of buckets: every accepted set-up and every list of slot calls, refused ones included.
-- Nothing is assumed of a call but what the slot's contract says.
use mathlib.Core.Path.{◌≡◌, ◌∙◌}
use mathlib.Core.List.{List}
use Prim.Native.Nat.{ℕ, ◌-◌}
use native.Mathlib.Omega.{arith}
use lib.ListN.{length}
use Rattle.calculus.specs.Regulators.Trace.{arrivals}
use Rattle.bucket_calculus.proofs.Device.{device_follows}
use Rattle.orders.specs.Verdict.{Accepted}
use Rattle.refusals.specs.Limits.{delay_limit, buffer_limit}
use Rattle.calls.specs.Calls.{trace_of}
use Rattle.calls.proofs.CallsRun.{calls_run, run_reached}
use Rattle.device.specs.Profile.{rate_of, burst_of, bucket_count, profile_envelope}
use Rattle.device.specs.Device.{fresh_device, device_made}
use Rattle.device.specs.DeviceCalls.{device_machine}
use Rattle.device.specs.DeviceRun.{DeviceRun}
use Rattle.device.proofs.DeviceSetUp.{AcceptedDevice, device-accepted, device_verdict}
use Rattle.device.proofs.DeviceFollows.{device_takes, envelope_closed, Reached, fresh_starts}

fresh_run : (profile : List ℕ) (d q : ℕ) → AcceptedDevice profile d q → (calls : List ℕ) → DeviceRun profile d q (fresh_device profile d q) calls
unfolding fresh_device profile_envelope
fresh_run profile d q ok calls =
    let left = run_reached device_machine device_takes (profile_envelope profile) (envelope_closed profile d q ok) (delay_limit d) (buffer_limit q) (fresh_device profile d q) (Reached profile d q ok) (fresh_starts profile d q ok) calls in
    record {
      run = calls_run device_machine device_takes (profile_envelope profile) (envelope_closed profile d q ok) (delay_limit d) (buffer_limit q) (fresh_device profile d q) (Reached profile d q ok) (fresh_starts profile d q ok) calls;
      settings_left = left.settled;
      departed_left = left.gone ∙ (device_follows (bucket_count profile - 1) (rate_of profile) (burst_of profile) (delay_limit d) (buffer_limit q) (arrivals (trace_of calls)) (length (trace_of calls))).1;
      levels_left = λ i p. left.level_at i (omega arith);
    }

-- The theorem.
pub device_run : (profile : List ℕ) (d q : ℕ) → (device_made profile d q).verdict ≡ Accepted → (calls : List ℕ) → DeviceRun profile d q (device_made profile d q).device calls
device_run profile d q accepted calls =
    let (none, fresh) = device_verdict profile d q accepted in
    rw fresh (fresh_run profile d q (device-accepted profile d q none) calls)
