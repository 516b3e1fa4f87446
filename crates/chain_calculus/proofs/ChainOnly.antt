-- Document 02 describes one chain only (request 2.8): whatever is described is the found chain, place by place.
use mathlib.Core.Path.{◌≡◌, refl, sym, ap, ◌∙◌}
use mathlib.Core.List.{List}
use Prim.Native.Nat.{ℕ, zero, suc, ◌-◌, ◌≤◌, ◌<◌}
use native.Mathlib.Nat.{le_antisymm}
use native.Mathlib.Decide.{dec_le}
use native.Mathlib.Omega.{arith}
use lib.ListN.{length, get_or}
use Rattle.calculus.specs.Numbers.Limit.{Limit, at_most}
use Rattle.chain_calculus.specs.Chain.{amount}
use Rattle.chain_calculus.specs.ChainFound.{link_first, link_mark, link_amount}
use Rattle.chain_calculus.specs.ChainDescribed.{Makes, Described}
use Rattle.chain_calculus.proofs.ChainLink.{link_found, first-least, mark-least}
use Rattle.chain_calculus.proofs.ChainSlots.{places, chain-start, places_next, slot_at, slot_at-before, slot_at-first, slot_at-last}

at_most_same : (v w : ℕ) → at_most v ≡ at_most w → v ≡ w
at_most_same v w e = cc

module _ (f : ℕ → ℕ) (d q : Limit) (a : ℕ → ℕ) where
  -- The found link makes X at its last slot.
  found_makes : (t : ℕ) → 1 ≤ t → Makes f d q a (link_mark f d q a t) (link_first f d q a t) t (link_amount f d q a t)
  found_makes t p = let (_, e, same) = link_found f d q a t p in record { marked = e; made = same }

  -- The found chain starts with 0, 0, 0.
  start_is : (t : ℕ) → (link_mark f d q a (slot_at f d q a t 0) ≡ 0) × (link_amount f d q a (slot_at f d q a t 0) ≡ 0)
  unfolding link_mark link_amount
  start_is t = rw (slot_at-first f d q a t) (refl, refl)

  module _ (slots marks amounts : List ℕ) where
    -- A described link is the one found from the slot it ends in.
    module _ (t places : ℕ) (described : Described f d q a t slots marks amounts places) (n : ℕ) (p : suc n < places) where
      up : 1 ≤ get_or slots (suc n) 0
      up = omega (arith, described.chain.rises n p)

      pub first-is : get_or slots n 0 ≡ link_first f d q a (get_or slots (suc n) 0)
      first-is =
          let here = get_or slots (suc n) 0 in
          le_antisymm (described.earliest n p _ _ _ (link_found f d q a here up).0 (found_makes here up))
          (first-least f d q a here up _ _ _ (described.chain.rises n p) (described.makes n p))

      pub mark-is : get_or marks (suc n) 0 ≡ link_mark f d q a (get_or slots (suc n) 0)
      mark-is =
          let here = get_or slots (suc n) 0 in
          le_antisymm (described.lowest n p _ (link_amount f d q a here) (rw first-is (found_makes here up)))
          (mark-least f d q a here up _ (get_or amounts (suc n) 0) (rw (← first-is) (described.makes n p)))

      pub amount-is : get_or amounts (suc n) 0 ≡ link_amount f d q a (get_or slots (suc n) 0)
      amount-is =
          let here = get_or slots (suc n) 0 in
          let ours : amount f d q a (get_or marks (suc n) 0) (get_or slots n 0) here ≡ at_most (link_amount f d q a here) =
          rw (mark-is, first-is) (link_found f d q a here up).1 in
          at_most_same _ _ (sym (described.makes n p).marked ∙ ours)

    -- All but the last place of a described chain describe a chain.
    shorter : (t n : ℕ) → Described f d q a t slots marks amounts (suc (suc n)) → Described f d q a (get_or slots n 0) slots marks amounts (suc n)
    shorter t n described =
        let last : suc n - 1 ≡ n = omega arith in
        record {
          chain = record {
            some = omega arith;
            fits = omega (arith, described.chain.fits);
            starts = described.chain.starts;
            rises = λ k p. described.chain.rises k (omega arith);
            ends = rw last refl;
            amounts_right = λ k p. described.chain.amounts_right k (omega arith);
          };
          makes = λ k p. described.makes k (omega arith);
          earliest = λ k p. described.earliest k (omega arith);
          lowest = λ k p. described.lowest k (omega arith);
        }

    last-is : (t n : ℕ) → Described f d q a t slots marks amounts (suc (suc n)) → get_or slots (suc n) 0 ≡ t
    last-is t n described = let e : suc (suc n) - 1 ≡ suc n = omega arith in rw e at described.chain.ends

    -- The slots of a described chain are the found chain's.
    pub slots_are : (n t : ℕ) → Described f d q a t slots marks amounts (suc n) → (places f d q a t ≡ suc n) × ((k : ℕ) → k ≤ n → get_or slots k 0 ≡ slot_at f d q a t k)
    slots_are zero t described =
        let first : get_or slots 0 0 ≡ 0 = described.chain.starts.0 in
        let start : t ≡ 0 = sym described.chain.ends ∙ first in
        rw start (ap length (chain-start f d q a).0, λ k p. let e : k ≡ 0 = omega arith in rw (e, (chain-start f d q a).0) first)
    slots_are (suc n) zero described =
        let end : get_or slots (suc n) 0 ≡ 0 = last-is 0 n described in
        absurd (omega (arith, described.chain.rises n (omega arith)))
    slots_are (suc n) (suc t) described =
        let end : get_or slots (suc n) 0 ≡ suc t = last-is (suc t) n described in
        let back : get_or slots n 0 ≡ link_first f d q a (suc t) = first-is (suc t) (suc (suc n)) described n (omega arith) ∙ ap (link_first f d q a) end in
        let (few, same) = slots_are n (get_or slots n 0) (shorter (suc t) n described) in
        let before : places f d q a (link_first f d q a (suc t)) ≡ suc n = ap (places f d q a) (sym back) ∙ few in
        let many : places f d q a (suc t) ≡ suc (suc n) = places_next f d q a t ∙ ap suc before in (
          many,
          λ k p. elim (dec_le k n) [
            | yes r ↦
                same k r ∙ ap (λ (s : ℕ). slot_at f d q a s k) back ∙ sym (slot_at-before f d q a t k (omega arith))
            | no r ↦ let e : k ≡ suc n = omega arith in
                rw e (end ∙ sym (slot_at-last f d q a (suc t) (suc n) many))
          ],
        )

    -- Its places are as many, and at each stand the slot, the mark and the amount that the found chain has there.
    pub described-is : (t n : ℕ) → Described f d q a t slots marks amounts n → (n ≡ places f d q a t) × ((k : ℕ) → k < n
        → (get_or slots k 0 ≡ slot_at f d q a t k) × (get_or marks k 0 ≡ link_mark f d q a (slot_at f d q a t k)) × (get_or amounts k 0 ≡ link_amount f d q a (slot_at f d q a t k)))
    described-is t zero described = absurd (omega (arith, described.chain.some))
    described-is t (suc n) described =
        let (many, slot) = slots_are n t described in
        (sym many, λ k p. let (mark, v) = of-link k p in (slot k (omega arith), mark, v))
      where
        of-link : (k : ℕ) → k < suc n → (get_or marks k 0 ≡ link_mark f d q a (slot_at f d q a t k)) × (get_or amounts k 0 ≡ link_amount f d q a (slot_at f d q a t k))
        of-link zero p =
            let (_, m, v) = described.chain.starts in
            let (m₂, v₂) = start_is t in
            (m ∙ sym m₂, v ∙ sym v₂)
        of-link (suc k) p =
            let slot : get_or slots (suc k) 0 ≡ slot_at f d q a t (suc k) = (slots_are n t described).1 (suc k) (omega arith) in
            rw (← slot) (mark-is t (suc n) described k p, amount-is t (suc n) described k p)

  -- Two described chains to a slot are the same.
  pub described_only : (t : ℕ) (slots marks amounts : List ℕ) (n : ℕ) (slots₂ marks₂ amounts₂ : List ℕ) (n₂ : ℕ)
      → Described f d q a t slots marks amounts n → Described f d q a t slots₂ marks₂ amounts₂ n₂
      → (n ≡ n₂) × ((k : ℕ) → k < n → (get_or slots k 0 ≡ get_or slots₂ k 0) × (get_or marks k 0 ≡ get_or marks₂ k 0) × (get_or amounts k 0 ≡ get_or amounts₂ k 0))
  described_only t slots marks amounts n slots₂ marks₂ amounts₂ n₂ one other =
      let (many, at) = described-is slots marks amounts t n one in
      let (many₂, at₂) = described-is slots₂ marks₂ amounts₂ t n₂ other in (
        many ∙ sym many₂,
        λ k p.
            let (s, m, v) = at k p in
            let (s₂, m₂, v₂) = at₂ k (omega arith) in
            (s ∙ sym s₂, m ∙ sym m₂, v ∙ sym v₂),
      )
