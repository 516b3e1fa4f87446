-- Laws of the device's set-up: what it answers, and what an accepted one has settled.
use Rattle.std.proofs.Common.{Result, Err, ◌∙◌}
use Rattle.orders.specs.declared.refusal.Refusal.{Refusal}
use Rattle.orders.specs.Answered.{refusal_number, number_given}
use Rattle.orders.proofs.Given.{refusal_numbered, given_number}
use mathlib.Core.Path.{◌≡◌, refl, sym, ap}
use mathlib.Core.List.{List}
use Prim.Native.Nat.{ℕ, zero, suc, ◌≤◌}
use Rattle.calculus.proofs.Numbers.Distinct.{zero_one}
use Rattle.calculus.specs.Numbers.Limit.{at_most}
use Rattle.calculus.specs.Numbers.Lists.{list_of}
use Rattle.orders.specs.Verdict.{Accepted, Refused}
use Rattle.orders.proofs.Refusals.{or_else_none}
use Rattle.refusals.specs.Limits.{delay_limit, buffer_limit}
use Rattle.refusals.proofs.AcceptedSettings.{delay_small, buffer_small, limits_none}
use Rattle.device.specs.Profile.{rate_of, burst_of, bucket_count, profile_refusal, device_refusal}
use Rattle.device.specs.Device.{device_settings, fresh_device, no_device, device_made_by, device_made, device_set_up_given, DeviceSetUp}
use Rattle.device.specs.declared.device.Device.{Device}
use Rattle.device.proofs.ProfileJudged.{AcceptedProfile, profile-accepted}

-- A refused set-up gives its number and no device.
pub device_refused : (profile : List ℕ) (d q k : ℕ) → (k ≡ 0 → ⊥) → k ≡ device_refusal profile d q → (s : Device) → s ≡ no_device
    → ◌≡◌ {A = DeviceSetUp} (record { verdict = Refused k; device = s }) (device_made profile d q)
unfolding device_made device_made_by
device_refused profile d q zero p e s none = absurd (p refl)
device_refused profile d q (suc k) p e s none = rw none (ap (λ (k : ℕ). device_made_by k profile d q) e)

-- A call that refuses a set-up gives just that.
pub set_up_refused : {A : Type 0} (profile : List ℕ) (d q : ℕ) (given : Result A Refusal) (answered : Result Device Refusal) (refusal : Refusal)
    → number_given given ≡ device_refusal profile d q → given ≡ Err refusal → answered ≡ Err refusal → device_set_up_given answered ≡ device_made profile d q
unfolding device_set_up_given
set_up_refused profile d q given answered refusal numbered refused e =
    ap device_set_up_given e
    ∙ device_refused profile d q (refusal_number refusal) (refusal_numbered refusal) (given_number given refusal _ numbered refused) no_device refl

-- An accepted one gives a fresh device.
pub device_fresh_lem : (profile : List ℕ) (d q : ℕ) → device_refusal profile d q ≡ 0
    → ◌≡◌ {A = DeviceSetUp} (record { verdict = Accepted; device = fresh_device profile d q }) (device_made profile d q)
unfolding device_made device_made_by
device_fresh_lem profile d q e = ap (λ (k : ℕ). device_made_by k profile d q) (sym e)

pub device-made : (profile : List ℕ) (d q : ℕ) → device_refusal profile d q ≡ 0 → (rates bursts levels : List ℕ)
    → rates ≡ list_of (rate_of profile) 4 → bursts ≡ list_of (burst_of profile) 4 → levels ≡ list_of (burst_of profile) 4
    → ◌≡◌ {A = DeviceSetUp}
    (record {
      verdict = Accepted;
      device = record {
        settings = record { buckets = bucket_count profile; delay = record { 0 = d }; buffer = record { 0 = q }; rates = rates; bursts = bursts };
        slots = record { 0 = 0 };
        admitted = record { 0 = 0 };
        departed = record { 0 = 0 };
        levels = levels;
        form_peak = record { 0 = 0 };
        bench_peak = record { 0 = 0 };
      };
    })
    (device_made profile d q)
unfolding fresh_device device_settings
device-made profile d q e rates bursts levels e1 e2 e3 = rw (e1, e2, e3) (device_fresh_lem profile d q e)

-- what an accepted set-up has settled
pub record AcceptedDevice (profile : List ℕ) (d q : ℕ) : Type 0 where
  pub profiled : AcceptedProfile profile
  pub delayed : (n : ℕ) → delay_limit d ≡ at_most n → n ≤ 64
  pub buffered : (n : ℕ) → buffer_limit q ≡ at_most n → n ≤ 1000000

pub device-accepted : (profile : List ℕ) (d q : ℕ) → device_refusal profile d q ≡ 0 → AcceptedDevice profile d q
unfolding device_refusal
device-accepted profile d q e =
    let (profiled, limits) = or_else_none (profile_refusal profile) _ e in
    let (delayed, buffered, _) = limits_none d q limits in
    record {
      profiled = profile-accepted profile profiled;
      delayed = λ n l. delay_small d n delayed l;
      buffered = λ n l. buffer_small q n buffered l;
    }

-- A set-up is accepted where it gets no number, and its device is then fresh.
pub device_verdict : (profile : List ℕ) (d q : ℕ) → (device_made profile d q).verdict ≡ Accepted
    → (device_refusal profile d q ≡ 0) × ((device_made profile d q).device ≡ fresh_device profile d q)
unfolding device_made
device_verdict profile d q e = judged (device_refusal profile d q) e
  where
    judged : (k : ℕ) → (device_made_by k profile d q).verdict ≡ Accepted → (k ≡ 0) × ((device_made_by k profile d q).device ≡ fresh_device profile d q)
    judged zero e = unfold device_made_by in (refl, refl)
    judged (suc k) e = absurd (unfold device_made_by in zero_one cc)
