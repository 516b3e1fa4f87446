-- What request 2.8 allows a link, mark by mark, in its words: "each link marked 1 arrivals, 2 delay or 3 buffer, with its amount: the packets
-- arrived after its first slot through its last, f(w+d) or f(w-1)+q, w being its window. A limit that is none marks no link."
-- No checker is named here.
use Rattle.std.specs.Prelude.{◌≡◌, ℕ, ◌+◌, ◌-◌}
use Rattle.calculus.specs.Numbers.Limit.{Limit, at_most}
use Rattle.calculus.specs.Regulators.Clipper.{arrived}

-- a link from slot s to slot t of so many packets, by its mark
pub data LinkWords (f : ℕ → ℕ) (d q : Limit) (a : ℕ → ℕ) (s t packets : ℕ) : ℕ → Type 0 where
  -- 1: what arrived by slot t is what arrived by slot s and these
  arrivals_link : arrived a t ≡ arrived a s + packets → LinkWords f d q a s t packets 1
  -- 2: f(w+d)
  delay_link : (n : ℕ) → d ≡ at_most n → packets ≡ f (t - s + n) → LinkWords f d q a s t packets 2
  -- 3: f(w-1) + q
  buffer_link : (n : ℕ) → q ≡ at_most n → packets ≡ f (t - s - 1) + n → LinkWords f d q a s t packets 3
