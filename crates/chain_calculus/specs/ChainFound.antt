-- The chain that is given for slot t (document 02, request 2.8): each link is found from the slot it ends in, working back to slot 0.
use Rattle.std.specs.Prelude.{ℕ, zero, suc, ◌+◌, Bool, List, [], ◌∷◌, ◌++◌, map, leb}
use Rattle.calculus.specs.Numbers.Limit.{Limit, none, at_most, map_limit}
use Rattle.calculus.specs.Envelopes.Envelope.{windows}
use Rattle.calculus.specs.Regulators.Clipper.{admitted}
use Rattle.calculus.specs.Numbers.FirstWhere.{first_where}
use Rattle.chain_calculus.specs.Chain.{is_number, amount}

-- the limit's number, 0 where it is none
unfoldable pub number_of : Limit → ℕ
number_of none = 0
number_of (at_most n) = n

module _ (f : ℕ → ℕ) (d q : Limit) (a : ℕ → ℕ) where
  -- A link of this mark from slot s to slot t: amount and X at its first slot make X at its last.
  unfoldable pub tight : ℕ → ℕ → ℕ → Bool
  tight mark s t = is_number (map_limit (λ n. n + admitted (windows f) d q a s) (amount f d q a mark s t)) (admitted (windows f) d q a t)

  -- the lowest mark of such a link from slot s to slot t; 4 where there is none
  unfoldable pub lowest_mark : ℕ → ℕ → ℕ
  lowest_mark s t = first_where 1 3 (λ mark. tight mark s t)

  -- The link that ends in slot t: the earliest first slot is taken ..
  unfoldable pub link_first : ℕ → ℕ
  link_first zero = 0
  link_first (suc t) = first_where 0 t (λ s. leb (lowest_mark s (suc t)) 3)

  -- .. then the lowest mark. Slot 0 ends no link: its mark is 0 and its amount 0.
  unfoldable pub link_mark : ℕ → ℕ
  link_mark zero = 0
  link_mark (suc t) = lowest_mark (link_first (suc t)) (suc t)

  unfoldable pub link_amount : ℕ → ℕ
  link_amount zero = 0
  link_amount (suc t) = number_of (amount f d q a (link_mark (suc t)) (link_first (suc t)) (suc t))

  -- the slots from 0 to t, working back over at most n links
  unfoldable pub slots_back : ℕ → ℕ → List ℕ
  slots_back zero t = 0 ∷ []
  slots_back (suc n) zero = 0 ∷ []
  slots_back (suc n) (suc t) = slots_back n (link_first (suc t)) ++ (suc t ∷ [])

  -- the found chain: 0, 0, 0 and then each link's last slot, mark and amount
  unfoldable pub chain_slots : ℕ → List ℕ
  chain_slots t = slots_back t t

  unfoldable pub chain_marks : ℕ → List ℕ
  chain_marks t = map link_mark (chain_slots t)

  unfoldable pub chain_amounts : ℕ → List ℕ
  chain_amounts t = map link_amount (chain_slots t)
