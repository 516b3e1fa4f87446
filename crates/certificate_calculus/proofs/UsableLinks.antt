-- A usable link bounds every permitted pair: none admits more over it than its amount. Nothing is asked of f.
use mathlib.Core.Path.{◌≡◌, ap}
use Prim.Native.Nat.{ℕ, zero, suc, ◌+◌, ◌-◌, ◌≤◌}
use native.Mathlib.Decide.{dec_le}
use native.Mathlib.Omega.{arith}
use Rattle.calculus.specs.Numbers.Limit.{Limit, at_most}
use Rattle.calculus.specs.Envelopes.Envelope.{windows}
use Rattle.calculus.specs.Regulators.Clipper.{arrived}
use Rattle.calculus.specs.Losses.Permitted.{Permitted}
use Rattle.calculus.proofs.Numbers.Rising.{rising}
use Rattle.calculus.proofs.Regulators.Clipper.{arrived-slot, arrived_rises}
use Rattle.calculus.proofs.Losses.Permitted.{permitted-bound}
use Rattle.certificate_calculus.specs.Certificate.{Usable, by_arrivals, by_delay, by_buffer}

module _ (f : ℕ → ℕ) (d q : Limit) (a : ℕ → ℕ) (T : ℕ) (x y : ℕ → ℕ) (permitted : Permitted (windows f) d q a T x y) where
  -- No more is admitted than arrived, and the loss does not fall.
  pub permitted-arrived : (t : ℕ) → t ≤ T → x t ≤ arrived a t
  permitted-arrived zero p = omega (arith, permitted.admitted_starts)
  permitted-arrived (suc t) p = omega (arith, permitted-arrived t (omega arith), permitted.admits_arrivals t p, arrived-slot a t)

  pub loss_rises : (i j : ℕ) → i ≤ j → j ≤ T → arrived a i - x i ≤ arrived a j - x j
  loss_rises = rising (λ t. arrived a t - x t) T (λ t p. omega (arith, permitted.admits_arrivals t p, arrived-slot a t))

  -- Mark 1: over a link no more is admitted than arrives.
  arrivals-bound : (s t : ℕ) → s ≤ t → t ≤ T → x t ≤ x s + (arrived a t - arrived a s)
  arrivals-bound s t p r =
      omega (arith, loss_rises s t p r, permitted-arrived s (omega arith), permitted-arrived t r, arrived_rises a s t p)

  -- What departed by a slot is bounded, from any slot before, by what was admitted by that slot and f.
  pub departed-bound : (s t : ℕ) → s ≤ t → t ≤ T → y t ≤ x s + f (t - s)
  unfolding windows
  departed-bound s t p r = omega (arith, permitted-bound (windows f) d q a T x y permitted s t p r, permitted.departs-admitted s (omega arith))

  -- Mark 2: what is admitted by slot t has departed by its deadline.
  delay-bound : (s t n : ℕ) → s ≤ t → d ≡ at_most n → t + n ≤ T → x t ≤ x s + f (t - s + n)
  delay-bound s t n p e r =
      let same : t + n - s ≡ t - s + n = omega arith in
      omega (arith, permitted.delay n e t r, departed-bound s (t + n) (omega arith) r, ap f same)

  -- Mark 3: what is admitted by slot t and has not departed by the slot before fits the buffer.
  buffer-bound : (s t n : ℕ) → s ≤ t → t ≤ T → q ≡ at_most n → x t ≤ x s + (f (t - s - 1) + n)
  buffer-bound s zero n p r e = let none : s ≡ 0 = omega arith in rw none (omega arith)
  buffer-bound s (suc t) n p r e =
      elim (dec_le s t) [
        | yes early ↦
            let same : suc t - s - 1 ≡ t - s = omega arith in
            omega (arith, permitted.buffer n e t r, departed-bound s t early (omega arith), ap f same)
        | no late ↦ let same : s ≡ suc t = omega arith in rw same (omega arith)
      ]

  pub usable_bounds : {mark : ℕ} (s t v : ℕ) → s ≤ t → t ≤ T → Usable f d q a T s t v mark → x t ≤ x s + v
  usable_bounds s t v st p (by_arrivals same) = omega (arith, arrivals-bound s t st p)
  usable_bounds s t v st p (by_delay n limit due same) = omega (arith, delay-bound s t n st limit due)
  usable_bounds s t v st p (by_buffer n limit same) = omega (arith, buffer-bound s t n st p limit)
