-- The device of buckets: set-up and the slot, for every profile, limit, device and number of arrivals whatever (document 02, request 2.2).
use Rattle.std.specs.Prelude.{◌≡◌, ℕ, zero, suc, ◌+◌, max, List, replicate, Result, Ok, Err}
use Rattle.calculus.specs.Numbers.Lists.{list_of}
use Rattle.calculus.specs.Numbers.Sizes.{most_slots}
use Rattle.orders.specs.Verdict.{Verdict, Accepted, Refused}
use Rattle.orders.specs.declared.refusal.Refusal.{Refusal}
use Rattle.refusals.specs.Limits.{delay_limit, buffer_limit, slot_refusal}
use Rattle.live_step.specs.Record.{record_by}
use Rattle.live_step.specs.Answer.{answer_by, SlotAnswer}
use Rattle.orders.specs.Answered.{refusal_number, unless_refused}
use Rattle.live_step.specs.Fill.{form_fill, bench_fill}
use Rattle.live_step.specs.declared.record.SlotRecord.{SlotRecord}
use Rattle.device.specs.Profile.{rate_of, burst_of, bucket_count, device_refusal}
use Rattle.device.specs.Levels.{buckets_of, step_admits, step_departs, levels_after}
use Rattle.device.specs.declared.device.DeviceSettings.{DeviceSettings}
use Rattle.device.specs.declared.device.Device.{Device}

-- the settings of an accepted set-up: the buckets, d and q; the places past the last bucket are 0
unfoldable pub device_settings : List ℕ → ℕ → ℕ → DeviceSettings
device_settings profile d q =
    record {
      buckets = bucket_count profile;
      delay = record { 0 = d };
      buffer = record { 0 = q };
      rates = list_of (rate_of profile) 4;
      bursts = list_of (burst_of profile) 4;
    }

-- a fresh device: running totals and peaks 0, and full buckets
unfoldable pub fresh_device : List ℕ → ℕ → ℕ → Device
fresh_device profile d q =
    record {
      settings = device_settings profile d q;
      slots = record { 0 = 0 };
      admitted = record { 0 = 0 };
      departed = record { 0 = 0 };
      levels = list_of (burst_of profile) 4;
      form_peak = record { 0 = 0 };
      bench_peak = record { 0 = 0 };
    }

-- what stands for no device: 1,000,000 slots are already taken, so it takes none
unfoldable pub no_device : Device
no_device =
    record {
      settings = record { buckets = 0; delay = record { 0 = 0 }; buffer = record { 0 = 0 }; rates = replicate 4 0; bursts = replicate 4 0 };
      slots = record { 0 = most_slots };
      admitted = record { 0 = 0 };
      departed = record { 0 = 0 };
      levels = replicate 4 0;
      form_peak = record { 0 = 0 };
      bench_peak = record { 0 = 0 };
    }

-- what comes of a set-up: the verdict, and the device
pub record DeviceSetUp : Type 0 where
  pub verdict : Verdict
  pub device : Device

-- A refused set-up gives the number and no device; an accepted one a fresh device.
unfoldable pub device_made_by : ℕ → List ℕ → ℕ → ℕ → DeviceSetUp
device_made_by zero profile d q = record { verdict = Accepted; device = fresh_device profile d q }
device_made_by (suc n) profile d q = record { verdict = Refused (suc n); device = no_device }

unfoldable pub device_made : List ℕ → ℕ → ℕ → DeviceSetUp
device_made profile d q = device_made_by (device_refusal profile d q) profile d q

-- what a call that sets up a device gives
unfoldable pub device_set_up_given : Result Device Refusal → DeviceSetUp
device_set_up_given (Ok device) = record { verdict = Accepted; device = device }
device_set_up_given (Err refusal) = record { verdict = Refused (refusal_number refusal); device = no_device }

-- the totals after a slot with n arrivals, admitted and departed
unfoldable pub device_admits : Device → ℕ → ℕ
device_admits s n =
    step_admits (delay_limit s.settings.delay.0) (buffer_limit s.settings.buffer.0) s.levels s.settings.rates
    (buckets_of s.settings.buckets) s.admitted.0 s.departed.0 n

unfoldable pub device_departs : Device → ℕ → ℕ
device_departs s n =
    step_departs (delay_limit s.settings.delay.0) (buffer_limit s.settings.buffer.0) s.levels s.settings.rates
    (buckets_of s.settings.buckets) s.admitted.0 s.departed.0 n

-- the slot's record: held before it; admitted in it; dropped: arrived less admitted; departed in it
unfoldable pub device_record : Device → ℕ → SlotRecord
device_record s n = record_by (device_admits s n) (device_departs s n) s.admitted.0 s.departed.0 n

-- the device advanced by one slot
unfoldable pub device_advanced : Device → ℕ → Device
device_advanced s n =
    record {
      settings = s.settings;
      slots = record { 0 = s.slots.0 + 1 };
      admitted = record { 0 = device_admits s n };
      departed = record { 0 = device_departs s n };
      levels = levels_after s.levels s.settings.rates s.settings.bursts (device_admits s n);
      form_peak = record { 0 = max s.form_peak.0 (form_fill (device_record s n)) };
      bench_peak = record { 0 = max s.bench_peak.0 (bench_fill (device_record s n)) };
    }

-- what comes of a slot: the answer, and the device after it
pub record DeviceStep : Type 0 where
  pub answer : SlotAnswer
  pub device : Device

-- A refused slot gives the number and the same device; an accepted one the record and the device advanced.
unfoldable pub device_slot_of : Device → ℕ → DeviceStep
device_slot_of s n =
    record {
      answer = answer_by (slot_refusal n s.slots.0) (device_record s n);
      device = unless_refused (slot_refusal n s.slots.0) (device_advanced s n) s;
    }

-- a device from its parts
abbrev pub device_of : ℕ → ℕ → ℕ → List ℕ → List ℕ → ℕ → ℕ → ℕ → List ℕ → ℕ → ℕ → Device
device_of buckets d q rates bursts slots x y levels form bench =
    record {
      settings = record { buckets = buckets; delay = record { 0 = d }; buffer = record { 0 = q }; rates = rates; bursts = bursts };
      slots = record { 0 = slots };
      admitted = record { 0 = x };
      departed = record { 0 = y };
      levels = levels;
      form_peak = record { 0 = form };
      bench_peak = record { 0 = bench };
    }

-- what a slot on lent parts answers, and what it leaves in those that it may change
pub record DeviceOn (s : Device) (n : ℕ) (a : SlotAnswer) (slots x y : ℕ) (levels : List ℕ) (form bench : ℕ) : Type 0 where
  pub answers : a ≡ (device_slot_of s n).answer
  pub takes : slots ≡ (device_slot_of s n).device.slots.0
  pub admits : x ≡ (device_slot_of s n).device.admitted.0
  pub departs : y ≡ (device_slot_of s n).device.departed.0
  pub raises : levels ≡ (device_slot_of s n).device.levels
  pub form_peaks : form ≡ (device_slot_of s n).device.form_peak.0
  pub bench_peaks : bench ≡ (device_slot_of s n).device.bench_peak.0
