-- A leaky-bucket profile (document 02, request 2.2): the buckets 0 to `last`, each with a rate and a burst, and the device that
-- holds bucket levels and totals in place of past departures.
use Rattle.std.specs.Prelude.{ℕ, zero, suc, ◌+◌, ◌-◌, ◌*◌, min}
use Rattle.calculus.specs.Numbers.Least.{least}
use Rattle.calculus.specs.Numbers.Limit.{Limit, map_limit}
use Rattle.calculus.specs.Regulators.Clipper.{arrived}
use Rattle.calculus.specs.Regulators.Ahead.{ahead_admitted, ahead_departed}

-- The envelope is 0 at window 0 and otherwise the least of rate × window + burst over the buckets.
unfoldable pub bucket_envelope : ℕ → (ℕ → ℕ) → (ℕ → ℕ) → ℕ → ℕ
bucket_envelope last rate burst zero = 0
bucket_envelope last rate burst (suc k) = least 0 last (λ i. rate i * suc k + burst i)

-- Document 000 under the count of request 2.9: the clipper's burst is enlarged by rate × d; a limit that is none drops out.
unfoldable pub enlargement : ℕ → Limit → Limit
enlargement rate d = map_limit (λ n. rate * n) d

-- the device after some slots: each bucket's level, and the totals admitted and departed
pub record Device : Type 0 where
  pub level : ℕ → ℕ
  pub admitted : ℕ
  pub departed : ℕ

-- the most that may have departed by k slots after the next: each bucket gains its rate in every slot
unfoldable pub device_ahead : ℕ → (ℕ → ℕ) → Device → ℕ → ℕ
device_ahead last rate s k = least 0 last (λ i. s.level i + rate i * suc k)

module _ (last : ℕ) (rate burst : ℕ → ℕ) where
  -- A fresh device has full buckets.
  unfoldable pub device_fresh : Device
  device_fresh = record { level = burst; admitted = 0; departed = 0 }

  -- One slot, in which n packets arrive. A bucket gains its rate, and never lets more depart than its burst beyond what is admitted.
  unfoldable pub device_slot : Limit → Limit → Device → ℕ → Device
  device_slot d q s n =
      let x : ℕ = ahead_admitted (device_ahead last rate s) s.departed d q s.admitted n in
      record { level = λ i. min (s.level i + rate i) (x + burst i); admitted = x; departed = ahead_departed (device_ahead last rate s) x }

  -- the device after slots 1 to t of the arrivals a
  unfoldable pub device_after : Limit → Limit → (ℕ → ℕ) → ℕ → Device
  device_after d q a zero = device_fresh
  device_after d q a (suc t) = device_slot d q (device_after d q a t) (a (suc t))

  -- its loss by slot t: arrived less admitted
  unfoldable pub device_loss : Limit → Limit → (ℕ → ℕ) → ℕ → ℕ
  device_loss d q a t = arrived a t - (device_after d q a t).admitted
