-- The device of bucket levels works theorem 5.1's totals for the bucket envelope.
use mathlib.Core.Path.{◌≡◌, ap, ◌∙◌}
use Prim.Native.Nat.{ℕ, zero, suc, ◌+◌, ◌-◌, ◌*◌, ◌≤◌, min}
use native.Mathlib.Nat.{le_antisymm}
use native.Mathlib.Omega.{arith}
use Rattle.calculus.specs.Numbers.Least.{least, least_of}
use Rattle.calculus.specs.Numbers.Limit.{Limit}
use Rattle.calculus.specs.Envelopes.Envelope.{windows}
use Rattle.calculus.specs.Regulators.Clipper.{admitted}
use Rattle.calculus.specs.Regulators.Regulator.{departed}
use Rattle.calculus.specs.Regulators.Ahead.{ahead, ahead_admitted}
use Rattle.bucket_calculus.specs.Buckets.{bucket_envelope, Device, device_ahead, device_fresh, device_slot, device_after}
use Rattle.calculus.proofs.Numbers.Least.{least_below, least_above, least_attained, least_cong, least-suc, least_add}
use Rattle.calculus.proofs.Regulators.Ahead.{ahead_below, ahead_above, admitted-ahead, departed-ahead}
use Rattle.calculus.proofs.Regulators.Regulator.{admitted-zero, departed-zero}
use Rattle.bucket_calculus.proofs.Buckets.{bucket_below, bucket_attained, bucket_closed}

-- a bucket's level by theorem 5.1: the least of X(s) + rate × (t-s) + burst for s from 0 to t
abbrev pub bucket_level : ℕ → ℕ → (ℕ → ℕ) → ℕ → ℕ
bucket_level rate burst X t = least 0 t (λ s. X s + rate * (t - s) + burst)

-- In a slot the level gains the rate, and stays within the burst of what is admitted.
pub level_next : (rate burst : ℕ) (X : ℕ → ℕ) (t : ℕ) → bucket_level rate burst X (suc t) ≡ min (bucket_level rate burst X t + rate) (X (suc t) + burst)
level_next rate burst X t =
    let now : suc t - suc t ≡ 0 = omega arith in
    let longer : least 0 t (λ s. X s + rate * (suc t - s) + burst) ≡ bucket_level rate burst X t + rate =
    least_cong 0 t _ _ (omega arith) (λ s s0 st. let e : suc t - s ≡ suc (t - s) = omega arith in rw e (omega arith))
    ∙ least_add 0 t (λ s. X s + rate * (t - s) + burst) rate (omega arith) in
    omega (arith, least-suc 0 t (λ s. X s + rate * (suc t - s) + burst) (omega arith), ap (λ (k : ℕ). rate * k) now)

-- Before the first slot the bucket is full.
pub level_full : (rate burst : ℕ) (X : ℕ → ℕ) → X 0 ≡ 0 → bucket_level rate burst X 0 ≡ burst
unfolding least least_of
level_full rate burst X starts = omega arith

module _ (last : ℕ) (rate burst : ℕ → ℕ) where
  abbrev F : ℕ → ℕ → ℕ
  F = windows (bucket_envelope last rate burst)

  -- a window that starts before slot t and ends k slots after the next
  window : (s t k i : ℕ) → s ≤ t → rate i * (suc t + k - s) ≡ rate i * (t - s) + rate i * suc k
  window s t k i p = let e : suc t + k - s ≡ t - s + suc k = omega arith in rw e (omega arith)

  -- With theorem 5.1's levels the device knows what may still depart.
  level-ahead : (X : ℕ → ℕ) (s : Device) (t : ℕ) → ((i : ℕ) → s.level i ≡ bucket_level (rate i) (burst i) X t)
      → (k : ℕ) → device_ahead last rate s k ≡ ahead X F t (suc t + k)
  unfolding device_ahead windows
  level-ahead X s t l k =
      le_antisymm
      (ahead_above X F t (suc t + k) _
      (λ r p.
      let (i, il, e) = bucket_attained last rate burst (suc t + k - r) (omega arith) in
      omega (arith, least_below 0 last (λ i. s.level i + rate i * suc k) i (omega arith) il, l i, least_below 0 t (λ s. X s + rate i * (t - s) + burst i) r (omega arith) p, window r t k i p)))
      (least_above 0 last _ _ (omega arith)
      (λ i i0 il.
      let (r, r0, rt, e) = least_attained 0 t (λ s. X s + rate i * (t - s) + burst i) (omega arith) in
      omega (arith, ahead_below X F t (suc t + k) r rt, bucket_below last rate burst (suc t + k - r) i il, l i, window r t k i rt)))

  module _ (d q : Limit) (a : ℕ → ℕ) where
    abbrev X : ℕ → ℕ
    X = admitted F d q a

    -- The device after slot t has theorem 5.1's totals for the bucket envelope, and each bucket's level.
    pub device_follows : (t : ℕ) → ((device_after last rate burst d q a t).admitted ≡ admitted F d q a t)
        × ((device_after last rate burst d q a t).departed ≡ departed F d q a t)
        × ((i : ℕ) → (device_after last rate burst d q a t).level i ≡ bucket_level (rate i) (burst i) X t)
    unfolding device_after device_fresh device_slot
    device_follows zero =
        let closed = bucket_closed last rate burst in
        let starts : X 0 ≡ 0 = admitted-zero F closed d q a in
        (cc, cc (departed-zero F closed d q a), λ i. omega (arith, level_full (rate i) (burst i) X starts))
    device_follows (suc t) =
        let closed = bucket_closed last rate burst in
        let s : Device = device_after last rate burst d q a t in
        let (x, y, l) = device_follows t in
        let w : ℕ → ℕ = device_ahead last rate s in
        let next : ahead_admitted w s.departed d q s.admitted (a (suc t)) ≡ X (suc t) = cc (admitted-ahead F closed d q a t w (level-ahead X s t l)) in
        (next, cc (departed-ahead F closed d q a t w (level-ahead X s t l)), λ i. omega (arith, l i, level_next (rate i) (burst i) X t))
