-- The bound by simpler buckets (document 02, request 2.6): for every trace and after every slot, with the same limits, the device of
-- several buckets loses at least what each one-bucket device loses, and at most their sum.
use mathlib.Core.Path.{◌≡◌, refl}
use Prim.Native.Nat.{ℕ, zero, suc, ◌-◌, ◌≤◌}
use native.Mathlib.Omega.{arith}
use Rattle.calculus.specs.Numbers.Least.{least, least_of}
use Rattle.calculus.specs.Numbers.Limit.{Limit}
use Rattle.bucket_calculus.specs.Sum.{sum_through}
use Rattle.calculus.specs.Envelopes.Envelope.{windows}
use Rattle.calculus.specs.Regulators.Regulator.{lost}
use Rattle.bucket_calculus.specs.Buckets.{bucket_envelope, device_loss}
use Rattle.bucket_calculus.proofs.Family.{envelopes-loss-each, envelopes-loss-sum}
use Rattle.bucket_calculus.proofs.Buckets.{bucket_below, bucket_above}
use Rattle.bucket_calculus.proofs.Device.{device_follows}

-- The device's loss is theorem 5.1's for the bucket envelope.
pub device-loss : (last : ℕ) (rate burst : ℕ → ℕ) (d q : Limit) (a : ℕ → ℕ) (t : ℕ)
    → device_loss last rate burst d q a t ≡ lost (windows (bucket_envelope last rate burst)) d q a t
unfolding device_loss lost
device-loss last rate burst d q a t = rw (device_follows last rate burst d q a t).0 refl

module _ (last : ℕ) (rate burst : ℕ → ℕ) where
  -- bucket i alone
  abbrev alone : ℕ → ℕ → ℕ
  alone i = bucket_envelope 0 (λ j. rate i) (λ j. burst i)

  -- The envelope of all buckets is the least of the envelopes of each alone.
  alone_under : (i k : ℕ) → i ≤ last → bucket_envelope last rate burst k ≤ alone i k
  unfolding bucket_envelope least least_of
  alone_under i zero p = omega arith
  alone_under i (suc k) p = bucket_below last rate burst (suc k) i p

  alone_above : (k z : ℕ) → ((i : ℕ) → i ≤ last → z ≤ alone i k) → z ≤ bucket_envelope last rate burst k
  unfolding bucket_envelope least least_of
  alone_above zero z p = p 0 (omega arith)
  alone_above (suc k) z p = bucket_above last rate burst (suc k) z (omega arith) p

  module _ (d q : Limit) (a : ℕ → ℕ) (t : ℕ) where
    -- At least each one-bucket device's loss ..
    pub device-loss-each : (i : ℕ) → i ≤ last → device_loss 0 (λ j. rate i) (λ j. burst i) d q a t ≤ device_loss last rate burst d q a t
    unfolding windows
    device-loss-each i p =
        simp device-loss
        (envelopes-loss-each last (windows (bucket_envelope last rate burst)) (λ i. windows (alone i)) (λ s t i st il. alone_under i (t - s) il) (λ s t z st. alone_above (t - s) z) d q a i t p)

    -- .. and at most the sum of them.
    pub device-loss-sum : device_loss last rate burst d q a t ≤ sum_through last (λ i. device_loss 0 (λ j. rate i) (λ j. burst i) d q a t)
    unfolding windows
    device-loss-sum =
        simp device-loss
        (envelopes-loss-sum last (windows (bucket_envelope last rate burst)) (λ i. windows (alone i)) (λ s t i st il. alone_under i (t - s) il) (λ s t z st. alone_above (t - s) z) d q a t)
