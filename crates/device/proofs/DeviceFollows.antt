-- A device takes slots, and from a fresh one each slot of a trace leads to the device that follows theorem 5.1.
use mathlib.Core.Path.{◌≡◌, refl, ap, ◌∙◌}
use mathlib.Core.List.{List}
use Prim.Native.Nat.{ℕ, zero, suc, ◌+◌, ◌-◌, ◌*◌, ◌≤◌, ◌<◌}
use native.Mathlib.Omega.{arith}
use native.Mathlib.Numerals.{add-one}
use lib.ListN.{get_or}
use Rattle.calculus.specs.Numbers.Limit.{Limit}
use Rattle.calculus.specs.Envelopes.Envelope.{windows, ClosedEnvelope}
use Rattle.calculus.specs.Regulators.Clipper.{admitted}
use Rattle.calculus.specs.Regulators.Regulator.{departed, held}
use Rattle.calculus.specs.Regulators.Trace.{arrivals}
use Rattle.calculus.specs.Numbers.Lists.{list_of}
use Rattle.bucket_calculus.specs.Buckets.{bucket_envelope, Device as Levels, device_fresh, device_slot, device_after}
use Rattle.calculus.proofs.Numbers.Least.{least_below}
use Rattle.calculus.proofs.Numbers.Lists.{list_of_at}
use Rattle.calculus.proofs.Regulators.Regulator.{admitted-arrived, departed_under, lost-slot}
use Rattle.bucket_calculus.proofs.Buckets.{bucket_closed}
use Rattle.bucket_calculus.proofs.Device.{device_follows}
use Rattle.refusals.specs.Limits.{delay_limit, buffer_limit}
use Rattle.calls.specs.CallsRun.{row_after}
use Rattle.live_step.specs.Answer.{Counted}
use Rattle.calls.proofs.AcceptedCalls.{slot_fine}
use Rattle.calls.proofs.CallRecords.{TakesSlots, FollowsTrace}
use Rattle.calls.proofs.CallsRun.{Starts}
use Rattle.refusals.proofs.AcceptedSettings.{arrived-bound}
use Rattle.device.specs.Profile.{rate_of, burst_of, bucket_count, profile_envelope}
use Rattle.device.specs.Levels.{buckets_of, levels_after}
use Rattle.device.specs.Device.{device_settings, fresh_device, device_admits, device_departs, device_record, device_advanced}
use Rattle.device.specs.DeviceCalls.{device_machine}
use Rattle.device.specs.declared.device.Device.{Device}
use Rattle.device.proofs.ProfileJudged.{rate_small, burst_small}
use Rattle.device.proofs.DeviceSetUp.{AcceptedDevice}
use Rattle.device.proofs.DeviceSlot.{slot_refused, slot_counted}
use Rattle.device.proofs.BucketLevels.{buckets_all}
use Rattle.device.proofs.CutByBuckets.{Stored, levels_follow, step-admits, step-departs}

-- Whatever the device: a refused slot leaves it, an accepted one is counted and raises the peaks.
pub device_takes : TakesSlots device_machine
unfolding device_machine device_advanced
device_takes =
    record {
      refuses = λ s n k e. let whole = slot_refused s n k e in (rw whole, rw whole);
      counts = λ s n e. let whole = slot_counted s n e in (device_record s n, rw whole, rw whole (add-one s.slots.0), rw whole, rw whole);
    }

module _ (profile : List ℕ) (d q : ℕ) (ok : AcceptedDevice profile d q) where
  abbrev D : Limit
  D = delay_limit d

  abbrev Q : Limit
  Q = buffer_limit q

  abbrev last : ℕ
  last = bucket_count profile - 1

  abbrev rate : ℕ → ℕ
  rate = rate_of profile

  abbrev burst : ℕ → ℕ
  burst = burst_of profile

  abbrev F : ℕ → ℕ → ℕ
  F = windows (bucket_envelope last rate burst)

  pub envelope_closed : ClosedEnvelope (windows (profile_envelope profile))
  unfolding profile_envelope
  envelope_closed = bucket_closed last rate burst

  -- the device of levels after t slots of a trace
  abbrev levelled : List ℕ → ℕ → Levels
  levelled w t = device_after last rate burst D Q (arrivals w) t

  -- a device that t accepted slots of the trace w gave: its totals and levels are those of the device of levels
  pub record Reached (w : List ℕ) (t : ℕ) (s : Device) : Type 0 where
    pub settled : s.settings ≡ device_settings profile d q
    pub taken : s.slots.0 ≡ t
    pub total : s.admitted.0 ≡ (levelled w t).admitted
    pub gone : s.departed.0 ≡ (levelled w t).departed
    pub level_at : (i : ℕ) → i ≤ last → get_or s.levels i 0 ≡ (levelled w t).level i

  count : buckets_of (bucket_count profile) ≡ suc last
  count = omega (arith, ok.profiled.count_from, buckets_all (bucket_count profile) ok.profiled.count_from ok.profiled.count_to)

  module _ (w : List ℕ) (few : (k : ℕ) → get_or w k 0 ≤ 1000000) where
    abbrev X : ℕ → ℕ
    X = admitted F D Q (arrivals w)

    abbrev Y : ℕ → ℕ
    Y = departed F D Q (arrivals w)

    arrivals_few : (k : ℕ) → arrivals w k ≤ 1000000
    unfolding arrivals
    arrivals_few zero = omega arith
    arrivals_few (suc k) = few k

    admitted_small : (t : ℕ) → t < 1000000 → X t + 1000000 ≤ 1000000000000
    admitted_small t p = omega (arith, admitted-arrived F (bucket_closed last rate burst) D Q (arrivals w) t, arrived-bound (arrivals w) t (λ k r. arrivals_few k))

    -- A level is at most its burst beyond what is admitted.
    level_small : (t i : ℕ) → t < 1000000 → (levelled w t).level i ≤ 1000001000000
    level_small t i p =
        let now : t - t ≡ 0 = omega arith in
        omega (
          arith,
          (device_follows last rate burst D Q (arrivals w) t).2 i,
          least_below 0 t (λ s. X s + rate i * (t - s) + burst i) t (omega arith) (omega arith),
          ap (λ (k : ℕ). rate i * k) now,
          burst_small profile ok.profiled i,
          admitted_small t p,
        )

    module _ (t : ℕ) (early : t < 1000000) (s : Device) (reached : Reached w t s) where
      stored : Stored last rate (levelled w t) s.levels (list_of rate 4)
      stored =
          record {
            level_at = reached.level_at;
            rate_at = λ i p. list_of_at rate 4 i (omega (arith, ok.profiled.count_to));
            level_small = λ i p. level_small t i early;
            rate_small = λ i p. rate_small profile ok.profiled i;
          }

      fits : (levelled w t).admitted + get_or w t 0 ≤ 1000000000000
      fits = omega (arith, (device_follows last rate burst D Q (arrivals w) t).0, admitted_small t early, few t)

      gone_small : (levelled w t).departed ≤ 1000000000000
      gone_small =
          omega (arith, (device_follows last rate burst D Q (arrivals w) t).1, departed_under F (bucket_closed last rate burst) D Q (arrivals w) t, admitted_small t early)

      -- The totals after slot t+1 are those of the device of levels ..
      next-admitted : device_admits s (get_or w t 0) ≡ (levelled w (suc t)).admitted
      unfolding device_admits device_settings device_after device_slot arrivals
      next-admitted =
          rw (reached.settled, count, reached.total, reached.gone)
          (step-admits last rate (levelled w t) s.levels (list_of rate 4) stored D Q ok.delayed ok.buffered (levelled w t).admitted (levelled w t).departed (get_or w t 0) fits gone_small)

      next-departed : device_departs s (get_or w t 0) ≡ (levelled w (suc t)).departed
      unfolding device_departs device_settings device_after device_slot arrivals
      next-departed =
          rw (reached.settled, count, reached.total, reached.gone)
          (step-departs last rate (levelled w t) s.levels (list_of rate 4) stored D Q ok.delayed ok.buffered (levelled w t).admitted (levelled w t).departed (get_or w t 0) fits gone_small)

      after_small : (levelled w (suc t)).admitted ≤ 1000000000000
      after_small =
          omega (
            arith,
            (device_follows last rate burst D Q (arrivals w) (suc t)).0,
            admitted-arrived F (bucket_closed last rate burst) D Q (arrivals w) (suc t),
            arrived-bound (arrivals w) (suc t) (λ k r. arrivals_few k),
          )

      -- .. and so are the levels.
      next_level : (i : ℕ) → i ≤ last
          → get_or (levels_after s.levels (list_of rate 4) (list_of burst 4) (levelled w (suc t)).admitted) i 0 ≡ (levelled w (suc t)).level i
      unfolding device_after device_slot
      next_level i p =
          let place : i < 4 = omega (arith, ok.profiled.count_to) in
          levels_follow last rate (levelled w t) s.levels (list_of rate 4) stored burst (list_of burst 4) (levelled w (suc t)).admitted i p place (list_of_at burst 4 i place)
          (burst_small profile ok.profiled i) after_small

      -- The device advanced by slot t+1 of the trace is the one that t+1 slots give.
      next_reached : Reached w (suc t) (device_advanced s (get_or w t 0))
      unfolding device_advanced device_settings
      next_reached =
          record {
            settled = reached.settled;
            taken = rw reached.taken (add-one t);
            total = next-admitted;
            gone = next-departed;
            level_at = λ i p. rw (next-admitted, reached.settled) (next_level i p);
          }

      -- The record answered is theorem 5.1's.
      next_record : device_record s (get_or w t 0) ≡ row_after F D Q (arrivals w) t
      unfolding device_record row_after held arrivals
      next_record =
          let (x, y, l) = device_follows last rate burst D Q (arrivals w) t in
          let (x', y', l') = device_follows last rate burst D Q (arrivals w) (suc t) in
          rw (next-admitted, next-departed, reached.total, reached.gone, x, y, x', y')
          (ap (λ (n : ℕ). record { held_before = X t - Y t; admitted = X (suc t) - X t; dropped = n; departed = Y (suc t) - Y t }) (lost-slot F (bucket_closed last rate burst) D Q (arrivals w) t))

    pub reached_follows : FollowsTrace device_machine (windows (profile_envelope profile)) D Q w (Reached w)
    unfolding device_machine profile_envelope
    reached_follows =
        record {
          taken = λ t s reached. reached.taken;
          total = λ t s reached. reached.total ∙ (device_follows last rate burst D Q (arrivals w) t).0;
          goes_on = λ t s early reached.
              let whole = slot_counted s (get_or w t 0) (slot_fine (get_or w t 0) s.slots.0 (few t) (omega (arith, reached.taken))) in
              rw whole (ap Counted (next_record t early s reached), next_reached t early s reached);
        }

  -- A fresh device is the one that no slot gave.
  pub fresh_starts : Starts device_machine (profile_envelope profile) D Q (fresh_device profile d q) Reached
  unfolding device_machine fresh_device device_after device_fresh
  fresh_starts =
      record {
        fresh = refl;
        form_fresh = refl;
        bench_fresh = refl;
        first = λ w. record { settled = refl; taken = refl; total = refl; gone = refl; level_at = λ i p. list_of_at burst 4 i (omega (arith, ok.profiled.count_to)) };
        follows = reached_follows;
      }
