-- The bound by simpler buckets for slot calls: every accepted set-up and every list of calls, refused ones included, whatever the
-- trace ends in.
use mathlib.Core.Path.{◌≡◌, refl, sym, ap, ap₂, ◌∙◌}
use mathlib.Core.List.{List}
use Prim.Native.Nat.{ℕ, zero, suc, ◌+◌, ◌-◌, ◌*◌, ◌≤◌}
use native.Mathlib.Omega.{arith}
use lib.ListN.{length}
use borrow.Author.Tests.{le-ltb}
use Rattle.calculus.specs.Numbers.Limit.{Limit}
use Rattle.calculus.specs.Numbers.Least.{least, least_of}
use Rattle.bucket_calculus.specs.Sum.{sum_through}
use Rattle.calculus.specs.Envelopes.Envelope.{windows}
use Rattle.calculus.specs.Regulators.Regulator.{lost}
use Rattle.calculus.specs.Regulators.Trace.{arrivals}
use Rattle.bucket_calculus.specs.Buckets.{bucket_envelope}
use Rattle.bucket_calculus.proofs.Family.{envelopes-loss-each, envelopes-loss-sum}
use Rattle.bucket_calculus.proofs.Buckets.{bucket_below, bucket_above}
use Rattle.orders.specs.Refusal.{◌when◌, ◌or_else◌}
use Rattle.orders.specs.Verdict.{Accepted}
use Rattle.orders.proofs.Refusals.{or_else_none}
use Rattle.refusals.specs.Limits.{delay_limit, buffer_limit}
use Rattle.calls.specs.Calls.{trace_of}
use Rattle.device.specs.Profile.{rate_of, burst_of, bucket_count, profile_envelope, buckets_refusal, numbers_refusal, profile_refusal, device_refusal}
use Rattle.device.specs.Device.{device_made, DeviceSetUp}
use Rattle.device.specs.SimplerBuckets.{bucket_alone, device_answers, loss_answered, BoundedByBuckets}
use Rattle.device.proofs.ProfileJudged.{AcceptedProfile, profile-accepted, rate_small, burst_small}
use Rattle.device.proofs.DeviceSetUp.{device_fresh_lem, device_verdict}
use Rattle.device.proofs.DeviceLowestLoss.{device_run}

module _ (profile : List ℕ) (d q : ℕ) (accepted : (device_made profile d q).verdict ≡ Accepted) (calls : List ℕ) where
  abbrev D : Limit
  D = delay_limit d

  abbrev Q : Limit
  Q = buffer_limit q

  abbrev last : ℕ
  last = bucket_count profile - 1

  abbrev a : ℕ → ℕ
  a = arrivals (trace_of calls)

  abbrev alone : ℕ → ℕ → ℕ
  alone i = profile_envelope (bucket_alone profile i)

  ok : AcceptedProfile profile
  unfolding device_refusal
  ok = profile-accepted profile (or_else_none (profile_refusal profile) _ (device_verdict profile d q accepted).0).0

  -- One bucket of an accepted profile is an accepted profile, with the same limits.
  alone_none : (i : ℕ) → device_refusal (bucket_alone profile i) d q ≡ 0
  unfolding device_refusal bucket_alone buckets_refusal numbers_refusal ◌when◌ ◌or_else◌
  alone_none i =
      rw (le-ltb 1000000 (rate_of profile i) (rate_small profile ok i), le-ltb 1000000 (burst_of profile i) (burst_small profile ok i))
      (or_else_none (profile_refusal profile) _ (device_verdict profile d q accepted).0).1

  alone-made : (i : ℕ) → (device_made (bucket_alone profile i) d q).verdict ≡ Accepted
  alone-made i = ap (λ (m : DeviceSetUp). m.verdict) (sym (device_fresh_lem (bucket_alone profile i) d q (alone_none i)))

  -- Its envelope is its line.
  alone-line : (i k : ℕ) → alone i (suc k) ≡ rate_of profile i * suc k + burst_of profile i
  unfolding profile_envelope bucket_envelope bucket_alone least least_of rate_of burst_of
  alone-line i k = refl

  alone-zero : (i : ℕ) → alone i 0 ≡ 0
  unfolding profile_envelope bucket_envelope
  alone-zero i = refl

  -- The envelope of all buckets is the least of the envelopes of each alone.
  alone_under : (i k : ℕ) → i ≤ last → profile_envelope profile k ≤ alone i k
  unfolding profile_envelope
  alone_under i zero p = omega (arith, all-zero)
    where
      all-zero : bucket_envelope last (rate_of profile) (burst_of profile) 0 ≡ 0
      all-zero = unfold bucket_envelope in refl
  alone_under i (suc k) p = omega (arith, alone-line i k, bucket_below last (rate_of profile) (burst_of profile) (suc k) i p)

  alone_above : (k z : ℕ) → ((i : ℕ) → i ≤ last → z ≤ alone i k) → z ≤ profile_envelope profile k
  unfolding profile_envelope
  alone_above zero z p = omega (arith, p 0 (omega arith), alone-zero 0)
  alone_above (suc k) z p =
      bucket_above last (rate_of profile) (burst_of profile) (suc k) z (omega arith) (λ i il. omega (arith, p i il, alone-line i k))

sum_cong : (n : ℕ) (h k : ℕ → ℕ) → ((i : ℕ) → h i ≡ k i) → sum_through n h ≡ sum_through n k
unfolding sum_through
sum_cong zero h k same = same 0
sum_cong (suc n) h k same = ap₂ ◌+◌ (sum_cong n h k same) (same (suc n))

-- The loss that is answered is theorem 5.1's.
loss_answered_lem : (profile : List ℕ) (d q : ℕ) → (device_made profile d q).verdict ≡ Accepted → (calls : List ℕ) (t : ℕ) → t ≤ length (trace_of calls)
    → loss_answered profile d q calls t ≡ lost (windows (profile_envelope profile)) (delay_limit d) (buffer_limit q) (arrivals (trace_of calls)) t
unfolding loss_answered device_answers lost
loss_answered_lem profile d q accepted calls t p = (device_run profile d q accepted calls).run.lowest.dropped_total t p

-- The theorem.
pub bounded_by_buckets : (profile : List ℕ) (d q : ℕ) → (device_made profile d q).verdict ≡ Accepted → (calls : List ℕ) → BoundedByBuckets profile d q calls
unfolding device_answers windows
bounded_by_buckets profile d q accepted calls =
    record {
      alone_accepted = λ i p. alone-made profile d q accepted calls i;
      alone_numbered = λ i p.
          (device_run (bucket_alone profile i) d q (alone-made profile d q accepted calls i) calls).run.numbered ∙ sym (device_run profile d q accepted calls).run.numbered;
      at_least_each = λ i t p r.
          omega (
            arith,
            loss_answered_lem profile d q accepted calls t r,
            loss_answered_lem (bucket_alone profile i) d q (alone-made profile d q accepted calls i) calls t r,
            each i t (omega arith),
          );
      at_most_sum = λ t r. omega (arith, loss_answered_lem profile d q accepted calls t r, sum t, sum_cong (bucket_count profile - 1) _ _ (λ i. loss_answered_lem (bucket_alone profile i) d q (alone-made profile d q accepted calls i) calls t r));
    }
  where
    under : (s t i : ℕ) → s ≤ t → i ≤ bucket_count profile - 1 → profile_envelope profile (t - s) ≤ profile_envelope (bucket_alone profile i) (t - s)
    under s t i st il = alone_under profile d q accepted calls i (t - s) il

    above : (s t z : ℕ) → s ≤ t → ((i : ℕ) → i ≤ bucket_count profile - 1 → z ≤ profile_envelope (bucket_alone profile i) (t - s)) → z ≤ profile_envelope profile (t - s)
    above s t z st p = alone_above profile d q accepted calls (t - s) z p

    each : (i t : ℕ) → i ≤ bucket_count profile - 1
        → lost (windows (profile_envelope (bucket_alone profile i))) (delay_limit d) (buffer_limit q) (arrivals (trace_of calls)) t ≤ lost (windows (profile_envelope profile)) (delay_limit d) (buffer_limit q) (arrivals (trace_of calls)) t
    each i t p =
        envelopes-loss-each (bucket_count profile - 1) (windows (profile_envelope profile)) (λ i. windows (profile_envelope (bucket_alone profile i))) under above (delay_limit d) (buffer_limit q) (arrivals (trace_of calls)) i t p

    sum : (t : ℕ)
        → lost (windows (profile_envelope profile)) (delay_limit d) (buffer_limit q) (arrivals (trace_of calls)) t
        ≤ sum_through (bucket_count profile - 1) (λ i. lost (windows (profile_envelope (bucket_alone profile i))) (delay_limit d) (buffer_limit q) (arrivals (trace_of calls)) t)
    sum t =
        envelopes-loss-sum (bucket_count profile - 1) (windows (profile_envelope profile)) (λ i. windows (profile_envelope (bucket_alone profile i))) under above (delay_limit d) (buffer_limit q) (arrivals (trace_of calls)) t
