-- What the device that is left tells: it has let depart what was answered; and what the bound by single buckets comes to for one bucket
-- and for two.
use mathlib.Core.Path.{◌≡◌, sym, ◌∙◌}
use mathlib.Core.List.{List}
use Prim.Native.Nat.{ℕ, ◌+◌, ◌-◌, ◌≤◌}
use native.Mathlib.Nat.{le_antisymm}
use native.Mathlib.Omega.{arith}
use lib.ListN.{length}
use Rattle.bucket_calculus.specs.Sum.{sum_through}
use Rattle.calculus.specs.Regulators.Trace.{sum_to}
use Rattle.calls.specs.Calls.{answers, after, trace_of, departed_in}
use Rattle.device.specs.Profile.{bucket_count}
use Rattle.device.specs.DeviceCalls.{device_machine}
use Rattle.device.specs.DeviceRun.{DeviceRun}
use Rattle.device.specs.SimplerBuckets.{bucket_alone, loss_answered, BoundedByBuckets}
use Rattle.device.specs.declared.device.Device.{Device}

pub departed_answered : (profile : List ℕ) (d q : ℕ) (s : Device) (calls : List ℕ) → DeviceRun profile d q s calls
    → (after device_machine s calls).departed.0 ≡ sum_to (departed_in (answers device_machine s calls)) (length (trace_of calls))
departed_answered profile d q s calls run = run.departed_left ∙ sym (run.run.lowest.departed_total (length (trace_of calls)) (omega arith))

module _ (profile : List ℕ) (d q : ℕ) (calls : List ℕ) (bound : BoundedByBuckets profile d q calls) (t : ℕ) (inside : t ≤ length (trace_of calls)) where
  abbrev alone : ℕ → ℕ
  alone i = loss_answered (bucket_alone profile i) d q calls t

  -- A device of one bucket loses what its bucket loses.
  pub bounded_one : bucket_count profile ≡ 1 → loss_answered profile d q calls t ≡ alone 0
  unfolding sum_through
  bounded_one one =
      let last : bucket_count profile - 1 ≡ 0 = omega arith in
      le_antisymm (rw last at (bound.at_most_sum t inside)) (bound.at_least_each 0 t (omega arith) inside)

  -- One of two loses what either loses, and no more than both.
  pub bounded_two : bucket_count profile ≡ 2
      → (alone 0 ≤ loss_answered profile d q calls t) × (alone 1 ≤ loss_answered profile d q calls t) × (loss_answered profile d q calls t ≤ alone 0 + alone 1)
  unfolding sum_through
  bounded_two two =
      let last : bucket_count profile - 1 ≡ 1 = omega arith in
      (bound.at_least_each 0 t (omega arith) inside, bound.at_least_each 1 t (omega arith) inside, rw last at (bound.at_most_sum t inside))
