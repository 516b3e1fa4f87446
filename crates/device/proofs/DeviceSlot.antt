-- Laws of the device's slot: call by call it is what its definition says.
use Rattle.std.proofs.Common.{Result, Err}
use Rattle.orders.specs.declared.refusal.Refusal.{Refusal}
use Rattle.orders.proofs.Given.{refusal_numbered, given_number}
use mathlib.Core.Path.{◌≡◌, refl, sym, ap, ap₂, ◌∙◌}
use mathlib.Core.List.{List}
use Prim.Native.Nat.{ℕ, zero, suc, ◌+◌, max}
use Rattle.refusals.specs.Limits.{delay_limit, buffer_limit, slot_refusal}
use Rattle.live_step.specs.Fill.{form_fill, bench_fill}
use Rattle.live_step.specs.Record.{record_by}
use Rattle.live_step.specs.Answer.{answer_by, answer_given, SlotAnswer, Counted, Refused}
use Rattle.orders.specs.Answered.{refusal_number, number_given, unless_refused}
use Rattle.live_step.specs.declared.step.Totals.{Totals}
use Rattle.live_step.specs.declared.record.SlotRecord.{SlotRecord}
use Rattle.device.specs.Levels.{buckets_of, levels_after, BucketStep}
use Rattle.device.specs.Device.{device_admits, device_departs, device_record, device_advanced, device_slot_of, DeviceOn, DeviceStep}
use Rattle.device.specs.declared.device.DeviceSettings.{DeviceSettings}
use Rattle.device.specs.declared.device.Device.{Device}

-- A refused slot gives its number and the same device.
pub slot_refused : (s : Device) (n k : ℕ) → slot_refusal n s.slots.0 ≡ suc k
    → ◌≡◌ {A = DeviceStep} (device_slot_of s n) (record { answer = Refused (suc k); device = s })
unfolding device_slot_of unless_refused answer_by
slot_refused s n k e = rw e

-- An accepted slot gives its record and the device advanced.
pub slot_counted : (s : Device) (n : ℕ) → slot_refusal n s.slots.0 ≡ 0
    → ◌≡◌ {A = DeviceStep} (device_slot_of s n) (record { answer = Counted (device_record s n); device = device_advanced s n })
unfolding device_slot_of unless_refused answer_by
slot_counted s n e = rw e

-- A slot on lent parts that is refused leaves them as they were.
pub slot_on_refused : (s : Device) (n k : ℕ) → (k ≡ 0 → ⊥) → k ≡ slot_refusal n s.slots.0
    → DeviceOn s n (Refused k) s.slots.0 s.admitted.0 s.departed.0 s.levels s.form_peak.0 s.bench_peak.0
slot_on_refused s n zero p e = absurd (p refl)
slot_on_refused s n (suc k) p e =
    let whole = slot_refused s n k (sym e) in
    record { answers = rw whole; takes = rw whole; admits = rw whole; departs = rw whole; raises = rw whole; form_peaks = rw whole; bench_peaks = rw whole }

pub slot_on_given : {A : Type 0} (s : Device) (n : ℕ) (given : Result A Refusal) (answered : Result SlotRecord Refusal) (refusal : Refusal)
    → number_given given ≡ slot_refusal n s.slots.0 → given ≡ Err refusal → answered ≡ Err refusal
    → DeviceOn s n (answer_given answered) s.slots.0 s.admitted.0 s.departed.0 s.levels s.form_peak.0 s.bench_peak.0
unfolding answer_given
slot_on_given s n given answered refusal numbered refused e =
    rw (ap answer_given e) (slot_on_refused s n (refusal_number refusal) (refusal_numbered refusal) (given_number given refusal _ numbered refused))

-- The record from the slot's totals is the slot's record.
record-made : (s : Device) (n x y : ℕ) (counted : SlotRecord) → x ≡ device_admits s n → y ≡ device_departs s n
    → counted ≡ record_by x y s.admitted.0 s.departed.0 n → counted ≡ device_record s n
unfolding device_record
record-made s n x y counted e1 e2 e = e ∙ ap₂ (λ (a b : ℕ). record_by a b s.admitted.0 s.departed.0 n) e1 e2

-- One that is accepted takes a step and counts, and raises the peaks.
pub slot_on-counted : (s : Device) (n : ℕ) → slot_refusal n s.slots.0 ≡ 0 → (totals : Totals) (after : List ℕ)
    → BucketStep (delay_limit s.settings.delay.0) (buffer_limit s.settings.buffer.0) s.levels s.settings.rates s.settings.bursts
    (buckets_of s.settings.buckets) s.admitted.0 s.departed.0 n totals after
    → (counted : SlotRecord) → counted ≡ record_by totals.admitted totals.departed s.admitted.0 s.departed.0 n
    → (form bench : ℕ) → form ≡ max s.form_peak.0 (form_fill counted) → bench ≡ max s.bench_peak.0 (bench_fill counted)
    → DeviceOn s n (Counted counted) (s.slots.0 + 1) totals.admitted totals.departed after form bench
unfolding device_advanced
slot_on-counted s n fine totals after stepped counted e form bench e1 e2 =
    let whole = slot_counted s n fine in
    let x : totals.admitted ≡ device_admits s n = unfold device_admits in stepped.admits in
    let y : totals.departed ≡ device_departs s n = unfold device_departs in stepped.departs in
    let raised : after ≡ levels_after s.levels s.settings.rates s.settings.bursts (device_admits s n) = unfold device_admits in stepped.raises in
    let same : counted ≡ device_record s n = record-made s n totals.admitted totals.departed counted x y e in
    record {
      answers = rw whole (ap Counted same);
      takes = rw whole;
      admits = rw whole x;
      departs = rw whole y;
      raises = rw whole raised;
      form_peaks = rw whole (e1 ∙ ap (λ (c : SlotRecord). max s.form_peak.0 (form_fill c)) same);
      bench_peaks = rw whole (e2 ∙ ap (λ (c : SlotRecord). max s.bench_peak.0 (bench_fill c)) same);
    }

-- No slot changes the settings.
settings-kept : (k : ℕ) (s : Device) (n : ℕ) → (unless_refused k (device_advanced s n) s).settings ≡ s.settings
unfolding unless_refused device_advanced
settings-kept zero s n = refl
settings-kept (suc k) s n = refl

pub slot_settings : (s : Device) (n : ℕ) → (device_slot_of s n).device.settings ≡ s.settings
unfolding device_slot_of
slot_settings s n = settings-kept (slot_refusal n s.slots.0) s n

-- a device from its settings and the parts that a slot may change
abbrev pub with_parts : DeviceSettings → ℕ → ℕ → ℕ → List ℕ → ℕ → ℕ → Device
with_parts settings slots x y levels form bench =
    record {
      settings = settings;
      slots = record { 0 = slots };
      admitted = record { 0 = x };
      departed = record { 0 = y };
      levels = levels;
      form_peak = record { 0 = form };
      bench_peak = record { 0 = bench };
    }

-- A slot on the parts of a device is the slot on the device.
pub slot_whole : (s : Device) (n : ℕ) (a : SlotAnswer) (slots x y : ℕ) (levels : List ℕ) (form bench : ℕ) → DeviceOn s n a slots x y levels form bench
    → ◌≡◌ {A = DeviceStep} (record { answer = a; device = with_parts s.settings slots x y levels form bench }) (device_slot_of s n)
slot_whole s n a slots x y levels form bench on =
    let r : Device = (device_slot_of s n).device in
    rw (on.answers, on.takes, on.admits, on.departs, on.raises, on.form_peaks, on.bench_peaks)
    (ap (λ (k : DeviceSettings). record {
      answer = (device_slot_of s n).answer;
      device = with_parts k r.slots.0 r.admitted.0 r.departed.0 r.levels r.form_peak.0 r.bench_peak.0;
    }) (sym (slot_settings s n)))
