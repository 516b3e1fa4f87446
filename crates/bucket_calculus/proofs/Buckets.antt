-- Laws of a leaky-bucket profile's envelope: each bucket bounds it, some bucket attains it, and it is closed.
use mathlib.Core.Path.{◌≡◌, refl}
use Prim.Native.Nat.{ℕ, zero, suc, ◌+◌, ◌*◌, ◌≤◌}
use native.Mathlib.Nat.{mul-le-mul_left, mul-le-mul_right}
use native.Mathlib.Decide.{dec_le}
use native.Mathlib.Omega.{arith}
use Rattle.calculus.specs.Envelopes.Envelope.{windows, ClosedEnvelope}
use Rattle.bucket_calculus.specs.Buckets.{bucket_envelope}
use Rattle.calculus.proofs.Numbers.Least.{least_below, least_above, least_attained}
use Rattle.calculus.proofs.Envelopes.Envelope.{windows_closed}

module _ (last : ℕ) (rate burst : ℕ → ℕ) where
  abbrev f : ℕ → ℕ
  f = bucket_envelope last rate burst

  pub bucket-zero : f 0 ≡ 0
  unfolding bucket_envelope
  bucket-zero = refl

  -- f is at most what each bucket allows ..
  pub bucket_below : (k i : ℕ) → i ≤ last → f k ≤ rate i * k + burst i
  unfolding bucket_envelope
  bucket_below zero i p = omega arith
  bucket_below (suc k) i p = least_below 0 last (λ i. rate i * suc k + burst i) i (omega arith) p

  -- .. at least whatever every bucket allows ..
  pub bucket_above : (k z : ℕ) → 1 ≤ k → ((i : ℕ) → i ≤ last → z ≤ rate i * k + burst i) → z ≤ f k
  unfolding bucket_envelope
  bucket_above zero z p q = absurd (omega arith)
  bucket_above (suc k) z p q = least_above 0 last (λ i. rate i * suc k + burst i) z (omega arith) (λ i i0 il. q i il)

  -- .. and what some bucket allows.
  pub bucket_attained : (k : ℕ) → 1 ≤ k → (i : ℕ) × (i ≤ last) × (f k ≡ rate i * k + burst i)
  unfolding bucket_envelope
  bucket_attained zero p = absurd (omega arith)
  bucket_attained (suc k) p =
      let (i, i0, il, e) = least_attained 0 last (λ i. rate i * suc k + burst i) (omega arith) in
      (i, il, e)

  -- f does not fall.
  pub bucket_rises : (j k : ℕ) → j ≤ k → f j ≤ f k
  bucket_rises j k p =
      elim (dec_le k 0) [
        | yes r ↦ let e : j ≡ k = omega arith in rw e (omega arith)
        | no r ↦ bucket_above k (f j) (omega arith) (λ i il. omega (arith, bucket_below j i il, mul-le-mul_left (rate i) p))
      ]

  -- f is subadditive: of the buckets that attain it at two windows, the one with the smaller rate bounds it at their sum.
  pub bucket_adds : (j k : ℕ) → f (j + k) ≤ f j + f k
  bucket_adds zero k = let e : 0 + k ≡ k = omega arith in rw e (omega arith)
  bucket_adds (suc j) zero = let e : suc j + 0 ≡ suc j = omega arith in rw e (omega arith)
  bucket_adds (suc j) (suc k) =
      let (b, bl, eb) = bucket_attained (suc j) (omega arith) in
      let (c, cl, ec) = bucket_attained (suc k) (omega arith) in
      elim (dec_le (rate b) (rate c)) [
        | yes r ↦ omega (arith, bucket_below (suc j + suc k) b bl, mul-le-mul_right (suc k) r)
        | no r ↦ let less : rate c ≤ rate b = omega arith in
            omega (arith, bucket_below (suc j + suc k) c cl, mul-le-mul_right (suc j) less)
      ]

  -- The bucket envelope is closed.
  pub bucket_closed : ClosedEnvelope (windows f)
  bucket_closed = windows_closed f bucket-zero bucket_rises bucket_adds
