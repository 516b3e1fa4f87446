-- The chain that document 02, request 2.8, describes, in its words and without a search.
use Rattle.std.specs.Prelude.{◌≡◌, List, ℕ, suc, ◌+◌, ◌≤◌, ◌<◌, get_or}
use Rattle.calculus.specs.Numbers.Limit.{Limit, at_most}
use Rattle.calculus.specs.Envelopes.Envelope.{windows}
use Rattle.calculus.specs.Regulators.Clipper.{admitted}
use Rattle.chain_calculus.specs.Chain.{amount, Chain}

module _ (f : ℕ → ℕ) (d q : Limit) (a : ℕ → ℕ) where
  -- a link of this mark and this amount from slot s to slot t: amount and X at its first slot make X at its last
  pub record Makes (mark s t v : ℕ) : Type 0 where
    pub marked : amount f d q a mark s t ≡ at_most v
    pub made : admitted (windows f) d q a t ≡ v + admitted (windows f) d q a s

  -- Each link is found from the slot it ends in: the earliest first slot is taken, then the lowest mark.
  pub record Described (t : ℕ) (slots marks amounts : List ℕ) (places : ℕ) : Type 0 where
    pub chain : Chain f d q a t slots marks amounts places
    -- Amount and X at a link's first slot make X at its last.
    pub makes : (n : ℕ) → suc n < places → Makes (get_or marks (suc n) 0) (get_or slots n 0) (get_or slots (suc n) 0) (get_or amounts (suc n) 0)
    pub earliest : (n : ℕ) → suc n < places → (mark s v : ℕ) → s < get_or slots (suc n) 0 → Makes mark s (get_or slots (suc n) 0) v → get_or slots n 0 ≤ s
    pub lowest : (n : ℕ) → suc n < places → (mark v : ℕ) → Makes mark (get_or slots n 0) (get_or slots (suc n) 0) v → get_or marks (suc n) 0 ≤ mark
