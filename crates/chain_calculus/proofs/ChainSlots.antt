-- The found chain's lists (document 02, request 2.8): how they grow link by link, and that the slots go from 0 to t, each the first slot
-- of the link that ends in the next.
use mathlib.Core.Path.{◌≡◌, refl, ap, sym, ◌∙◌}
use mathlib.Core.List.{List, [], ◌∷◌, ◌++◌, map-append}
use Prim.Native.Nat.{ℕ, zero, suc, ◌≤◌, ◌<◌}
use native.Mathlib.Decide.{dec_le}
use native.Mathlib.Omega.{arith}
use native.Mathlib.Numerals.{add-one}
use lib.ListN.{length, get_or, length-append, length-map, get_or-append}
use lib.Seq.{get_or_at}
use Rattle.calculus.specs.Numbers.Limit.{Limit}
use Rattle.chain_calculus.specs.ChainFound.{link_first, link_mark, link_amount, slots_back, chain_slots, chain_marks, chain_amounts}
use Rattle.calculus.proofs.Numbers.Course.{strongly}
use Rattle.chain_calculus.proofs.ChainLink.{link_found}

module _ (f : ℕ → ℕ) (d q : Limit) (a : ℕ → ℕ) where
  abbrev first : ℕ → ℕ
  first = link_first f d q a

  -- the number of places of the chain to slot t
  abbrev pub places : ℕ → ℕ
  places t = length (chain_slots f d q a t)

  slots_back-zero : (n : ℕ) → slots_back f d q a n 0 ≡ 0 ∷ []
  unfolding slots_back
  slots_back-zero zero = refl
  slots_back-zero (suc n) = refl

  -- Any number of links that suffices gives the same slots.
  slots_back_same : (n m t : ℕ) → t ≤ n → t ≤ m → slots_back f d q a n t ≡ slots_back f d q a m t
  unfolding slots_back
  slots_back_same zero m t p r = let e : t ≡ 0 = omega arith in rw e (sym (slots_back-zero m))
  slots_back_same (suc n) m zero p r = sym (slots_back-zero m)
  slots_back_same (suc n) zero (suc t) p r = absurd (omega arith)
  slots_back_same (suc n) (suc m) (suc t) p r =
      let early : first (suc t) < suc t = (link_found f d q a (suc t) (omega arith)).0 in
      ap (λ (l : List ℕ). l ++ (suc t ∷ [])) (slots_back_same n m (first (suc t)) (omega arith) (omega arith))

  -- The chain to slot 0 has one place, 0, 0, 0.
  pub chain-start : (chain_slots f d q a 0 ≡ 0 ∷ []) × (chain_marks f d q a 0 ≡ 0 ∷ []) × (chain_amounts f d q a 0 ≡ 0 ∷ [])
  unfolding chain_slots chain_marks chain_amounts slots_back link_mark link_amount
  chain-start = (refl, refl, refl)

  -- The chain to any other slot is that to its last link's first slot, and then the slot, its mark and its amount.
  pub chain_slots_next : (t : ℕ) → chain_slots f d q a (suc t) ≡ chain_slots f d q a (first (suc t)) ++ (suc t ∷ [])
  unfolding chain_slots slots_back
  chain_slots_next t =
      let early : first (suc t) < suc t = (link_found f d q a (suc t) (omega arith)).0 in
      ap (λ (l : List ℕ). l ++ (suc t ∷ [])) (slots_back_same t (first (suc t)) (first (suc t)) (omega arith) (omega arith))

  pub chain_marks_next : (t : ℕ) → chain_marks f d q a (suc t) ≡ chain_marks f d q a (first (suc t)) ++ (link_mark f d q a (suc t) ∷ [])
  unfolding chain_marks
  chain_marks_next t = rw (chain_slots_next t, map-append) refl

  pub chain_amounts_next : (t : ℕ) → chain_amounts f d q a (suc t) ≡ chain_amounts f d q a (first (suc t)) ++ (link_amount f d q a (suc t) ∷ [])
  unfolding chain_amounts
  chain_amounts_next t = rw (chain_slots_next t, map-append) refl

  -- Marks and amounts are as many as slots.
  pub length-chain_marks : (t : ℕ) → length (chain_marks f d q a t) ≡ places t
  unfolding chain_marks
  length-chain_marks t = length-map (chain_slots f d q a t) (link_mark f d q a)

  pub length-chain_amounts : (t : ℕ) → length (chain_amounts f d q a t) ≡ places t
  unfolding chain_amounts
  length-chain_amounts t = length-map (chain_slots f d q a t) (link_amount f d q a)

  pub places_next : (t : ℕ) → places (suc t) ≡ suc (places (first (suc t)))
  places_next t = rw (chain_slots_next t, length-append, add-one) refl

  -- What holds of slot 0's chain, and of any other slot's where it holds of its last link's first slot, holds of all.
  along : (P : ℕ → Type 0) → P 0 → ((t : ℕ) → P (first (suc t)) → P (suc t)) → (t : ℕ) → P t
  along P start next = strongly P step
    where
      step : (t : ℕ) → ((k : ℕ) → k < t → P k) → P t
      step zero ih = start
      step (suc t) ih = next t (ih (first (suc t)) (link_found f d q a (suc t) (omega arith)).0)

  -- There is a place, and no more places than slots, slot 0 included.
  pub places_some : (t : ℕ) → 1 ≤ places t
  places_some = along (λ t. 1 ≤ places t) (rw chain-start.0 (omega arith)) (λ t ih. omega (arith, places_next t))

  pub places_most : (t : ℕ) → places t ≤ suc t
  places_most =
      along (λ t. places t ≤ suc t) (rw chain-start.0 (omega arith))
      (λ t ih. omega (arith, places_next t, (link_found f d q a (suc t) (omega arith)).0))

  -- the slot at place n of the chain to slot t
  abbrev pub slot_at : ℕ → ℕ → ℕ
  slot_at t n = get_or (chain_slots f d q a t) n 0

  -- All but the last place are the shorter chain's.
  pub slot_at-before : (t n : ℕ) → n < places (first (suc t)) → slot_at (suc t) n ≡ slot_at (first (suc t)) n
  slot_at-before t n p = rw (chain_slots_next t) (get_or-append (chain_slots f d q a (first (suc t))) _ 0 n p)

  -- The slots go from 0 to t ..
  pub slot_at-first : (t : ℕ) → slot_at t 0 ≡ 0
  slot_at-first =
      along (λ t. slot_at t 0 ≡ 0) (rw chain-start.0 refl)
      (λ t ih. slot_at-before t 0 (places_some (first (suc t))) ∙ ih)

  pub slot_at-last : (t n : ℕ) → places t ≡ suc n → slot_at t n ≡ t
  slot_at-last zero n p = let e : n ≡ 0 = omega (arith, ap length chain-start.0) in rw (e, chain-start.0) refl
  slot_at-last (suc t) n p =
      rw (chain_slots_next t) (get_or_at (chain_slots f d q a (first (suc t))) (suc t) [] 0 n (omega (arith, places_next t)))

  -- .. and each is the first slot of the link that ends in the next.
  pub slot_at_back : (t n : ℕ) → suc n < places t → (slot_at t n ≡ first (slot_at t (suc n))) × (1 ≤ slot_at t (suc n))
  slot_at_back = along (λ t. (n : ℕ) → suc n < places t → (slot_at t n ≡ first (slot_at t (suc n))) × (1 ≤ slot_at t (suc n))) start next
    where
      start : (n : ℕ) → suc n < places 0 → (slot_at 0 n ≡ first (slot_at 0 (suc n))) × (1 ≤ slot_at 0 (suc n))
      start n p = absurd (omega (arith, ap length chain-start.0))

      next : (t : ℕ) → ((n : ℕ) → suc n < places (first (suc t)) → (slot_at (first (suc t)) n ≡ first (slot_at (first (suc t)) (suc n))) × (1 ≤ slot_at (first (suc t)) (suc n)))
          → (n : ℕ) → suc n < places (suc t) → (slot_at (suc t) n ≡ first (slot_at (suc t) (suc n))) × (1 ≤ slot_at (suc t) (suc n))
      next t ih n p =
          let here : slot_at (suc t) n ≡ slot_at (first (suc t)) n = slot_at-before t n (omega (arith, places_next t)) in
          elim (dec_le (suc (suc n)) (places (first (suc t)))) [
            | yes r ↦ let after : slot_at (suc t) (suc n) ≡ slot_at (first (suc t)) (suc n) = slot_at-before t (suc n) r in
                (cc (ih n r).0, omega (arith, (ih n r).1))
            | no r ↦ let last : slot_at (suc t) (suc n) ≡ suc t = slot_at-last (suc t) (suc n) (omega (arith, places_next t)) in
                (cc (slot_at-last (first (suc t)) n (omega (arith, places_next t))), omega arith)
          ]
