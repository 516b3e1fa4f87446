-- What the delay limit looks ahead (document 01, "One slot": f(k+d)).
use Rattle.std.specs.Prelude.{ℕ, leb}
use Rattle.calculus.specs.Numbers.Sizes.{most_delay}
use Rattle.orders.specs.Refusal.{pick}

-- the slots that are looked ahead: the delay limit, or 0 where it is none and what is looked at is not used
unfoldable pub looked_ahead : ℕ → ℕ
looked_ahead d = pick (leb d most_delay) d 0
