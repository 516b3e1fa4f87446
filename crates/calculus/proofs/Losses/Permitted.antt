-- Permitted pairs and envelopes: what the envelope's rule says of the departed totals, and that no other rule names the envelope.
use mathlib.Core.Path.{◌≡◌}
use Prim.Native.Nat.{ℕ, ◌+◌, ◌-◌, ◌≤◌, ◌<◌}
use native.Mathlib.Decide.{dec_le}
use native.Mathlib.Omega.{arith}
use Rattle.calculus.specs.Numbers.Limit.{Limit}
use Rattle.calculus.specs.Losses.Permitted.{Permitted}

module _ (F : ℕ → ℕ → ℕ) (d q : Limit) (a : ℕ → ℕ) (T : ℕ) (u v : ℕ → ℕ) (permitted : Permitted F d q a T u v) where
  -- What departs by slot t is bounded from any slot s before.
  pub permitted-bound : (s t : ℕ) → s ≤ t → t ≤ T → v t ≤ v s + F s t
  permitted-bound s t p r =
      elim (dec_le t s) [
        | yes w ↦ let e : s ≡ t = omega arith in rw e (omega arith)
        | no w ↦ omega (arith, permitted.envelope s t (omega arith) r)
      ]

  -- A permitted pair whose departures keep another envelope is permitted for that one.
  pub permitted_with : (G : ℕ → ℕ → ℕ) → ((s t : ℕ) → s < t → t ≤ T → v t - v s ≤ G s t) → Permitted G d q a T u v
  permitted_with G keeps =
      record {
        admitted_starts = permitted.admitted_starts;
        departed_starts = permitted.departed_starts;
        admitted_rises = permitted.admitted_rises;
        departed_rises = permitted.departed_rises;
        admits_arrivals = permitted.admits_arrivals;
        departs-admitted = permitted.departs-admitted;
        envelope = keeps;
        buffer = permitted.buffer;
        delay = permitted.delay;
      }
