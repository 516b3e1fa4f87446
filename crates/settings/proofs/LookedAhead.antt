-- What is looked ahead is at most 64 slots: the delay limit where it is a number, and 0 where it is none.
use mathlib.Core.Path.{◌≡◌, refl, ◌∙◌}
use Prim.Native.Nat.{ℕ, ◌≤◌, ◌<◌}
use native.Mathlib.Decide.{dec_le}
use native.Mathlib.Omega.{arith}
use borrow.Author.Tests.{le-leb, lt-leb}
use Rattle.orders.specs.Refusal.{pick}
use Rattle.settings.specs.LookedAhead.{looked_ahead}

abbrev pub LooksAhead : ℕ → ℕ → Type 0
LooksAhead d ahead = (ahead ≤ 64) × (d ≤ 64 → ahead ≡ d) × (64 < d → ahead ≡ 0)

pub ahead-delay : (d : ℕ) → d ≤ 64 → looked_ahead d ≡ d
unfolding looked_ahead pick
ahead-delay d p = rw (le-leb d 64 p) refl

pub ahead_none : (d : ℕ) → 64 < d → looked_ahead d ≡ 0
unfolding looked_ahead pick
ahead_none d p = rw (lt-leb d 64 p) refl

pub looks-ahead : {d ahead : ℕ} → ahead ≡ looked_ahead d → LooksAhead d ahead
looks-ahead {d = d} {ahead = ahead} e =
    elim (dec_le d 64) [
      | yes p ↦ (omega (arith, e, ahead-delay d p), λ r. e ∙ ahead-delay d r, λ r. e ∙ ahead_none d r)
      | no p ↦ (omega (arith, e, ahead_none d (omega arith)), λ r. e ∙ ahead-delay d r, λ r. e ∙ ahead_none d r)
    ]
