-- Chains of slots (document 02, request 2.8): a reason why no more than so many packets are admitted by slot t, and its checker.
-- A chain is three lists and a number of places: slots, marks and amounts.
use Rattle.std.specs.Prelude.{◌≡◌, ℕ, zero, suc, ◌-◌, ◌≤◌, ◌<◌, Bool, true, false, cond, ◌&&◌, List, eqb, ltb, length, get_or}
use Rattle.calculus.specs.Numbers.Limit.{Limit, none, at_most}
use Rattle.calculus.specs.Regulators.Clipper.{arrived, delay_bound, buffer_bound}

-- whether the limit is the number v
unfoldable pub is_number : Limit → ℕ → Bool
is_number none v = false
is_number (at_most n) v = eqb n v

-- the checker's test of the first place: 0, 0, 0
unfoldable pub start_sound : List ℕ → List ℕ → List ℕ → Bool
start_sound slots marks amounts = eqb (get_or slots 0 0) 0 && (eqb (get_or marks 0 0) 0 && eqb (get_or amounts 0 0) 0)

module _ (f : ℕ → ℕ) (d q : Limit) (a : ℕ → ℕ) where
  -- The amount of a link from slot s to slot t: mark 1, the packets arrived after s through t; mark 2, f(w+d); mark 3, f(w-1) + q,
  -- w being its window. A limit that is none marks no link, and neither does any other number.
  unfoldable pub amount : ℕ → ℕ → ℕ → Limit
  amount mark s t =
      cond (eqb mark 1) (at_most (arrived a t - arrived a s))
      (cond (eqb mark 2) (delay_bound f d (t - s))
      (cond (eqb mark 3) (buffer_bound f q (t - s)) none))

  -- A sound chain to slot t: the number of places is from 1 to the lists' length, the first place is 0, 0, 0, the slots rise from 0 to
  -- t, and each link's mark is allowed and its amount is that mark's, however the link was found.
  pub record Chain (t : ℕ) (slots marks amounts : List ℕ) (places : ℕ) : Type 0 where
    pub some : 1 ≤ places
    pub fits : places ≤ length slots
    pub starts : (get_or slots 0 0 ≡ 0) × (get_or marks 0 0 ≡ 0) × (get_or amounts 0 0 ≡ 0)
    pub rises : (n : ℕ) → suc n < places → get_or slots n 0 < get_or slots (suc n) 0
    pub ends : get_or slots (places - 1) 0 ≡ t
    pub amounts_right : (n : ℕ) → suc n < places → amount (get_or marks (suc n) 0) (get_or slots n 0) (get_or slots (suc n) 0) ≡ at_most (get_or amounts (suc n) 0)

  -- The checker's test of a link from slot s to slot t, of the links to the places 1 to n, and of the chain.
  unfoldable pub link_sound : ℕ → ℕ → ℕ → ℕ → Bool
  link_sound s t mark v = ltb s t && is_number (amount mark s t) v

  unfoldable pub links_sound : List ℕ → List ℕ → List ℕ → ℕ → Bool
  links_sound slots marks amounts zero = true
  links_sound slots marks amounts (suc n) =
      links_sound slots marks amounts n && link_sound (get_or slots n 0) (get_or slots (suc n) 0) (get_or marks (suc n) 0) (get_or amounts (suc n) 0)

  unfoldable pub chain_sound : ℕ → List ℕ → List ℕ → List ℕ → ℕ → Bool
  chain_sound t slots marks amounts zero = false
  chain_sound t slots marks amounts (suc n) =
      ltb n (length slots) && (start_sound slots marks amounts && (links_sound slots marks amounts n && eqb (get_or slots n 0) t))
