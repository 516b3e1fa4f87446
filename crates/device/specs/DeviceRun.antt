-- All that is claimed of a list of slot calls from a device that a set-up gave.
use Rattle.std.specs.Prelude.{◌≡◌, ℕ, ◌-◌, ◌<◌, List, length, get_or}
use Rattle.calculus.specs.Envelopes.Envelope.{windows}
use Rattle.calculus.specs.Regulators.Regulator.{departed}
use Rattle.calculus.specs.Regulators.Trace.{arrivals}
use Rattle.bucket_calculus.specs.Buckets.{device_after}
use Rattle.refusals.specs.Limits.{delay_limit, buffer_limit}
use Rattle.calls.specs.Calls.{after, trace_of}
use Rattle.calls.specs.CallsRun.{CallsRun}
use Rattle.device.specs.Profile.{rate_of, burst_of, bucket_count, profile_envelope}
use Rattle.device.specs.DeviceCalls.{device_machine}
use Rattle.device.specs.declared.device.Device.{Device}

pub record DeviceRun (profile : List ℕ) (d q : ℕ) (s : Device) (calls : List ℕ) : Type 0 where
  -- What is claimed of every machine that takes slots, with the profile's envelope.
  pub run : CallsRun device_machine (profile_envelope profile) (delay_limit d) (buffer_limit q) s calls
  -- The device that is left has its settings and Y(T), and each bucket's level is that of the device of levels.
  pub settings_left : (after device_machine s calls).settings ≡ s.settings
  pub departed_left : (after device_machine s calls).departed.0
      ≡ departed (windows (profile_envelope profile)) (delay_limit d) (buffer_limit q) (arrivals (trace_of calls)) (length (trace_of calls))
  pub levels_left : (i : ℕ) → i < bucket_count profile
      → get_or (after device_machine s calls).levels i 0
      ≡ (device_after (bucket_count profile - 1) (rate_of profile) (burst_of profile) (delay_limit d) (buffer_limit q) (arrivals (trace_of calls)) (length (trace_of calls))).level i
