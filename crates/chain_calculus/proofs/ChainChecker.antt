-- The checker accepts exactly the sound chains (document 02, request 2.8).
use mathlib.Core.Path.{◌≡◌, refl, ap}
use mathlib.Core.Bool.{Bool, true, false, ◌&&◌}
use mathlib.Core.List.{List}
use Prim.Native.Nat.{ℕ, zero, suc, ◌-◌, ◌<◌}
use native.Mathlib.Decide.{dec_le}
use native.Mathlib.Omega.{arith}
use lib.Dec.{T, eqb, ltb, eqb_refl, eqb→eq, ltb→lt, lt→ltb}
use lib.ListN.{length, get_or}
use Rattle.calculus.specs.Numbers.Limit.{Limit, none, at_most}
use Rattle.chain_calculus.specs.Chain.{is_number, start_sound, amount, Chain, link_sound, links_sound, chain_sound}

-- Two tests pass together exactly where each does.
pub both : (b c : Bool) → T (b && c) → T b × T c
both true c h = (tt, h)
both false c h = absurd h

pub also : (b c : Bool) → T b → T c → T (b && c)
also true c h k = k
also false c h k = absurd h

-- The test of an amount passes exactly where the limit is that number.
pub is_number-is : (l : Limit) (v : ℕ) → T (is_number l v) → l ≡ at_most v
unfolding is_number
is_number-is none v h = absurd h
is_number-is (at_most n) v h = ap at_most (eqb→eq n v h)

pub is-is_number : (l : Limit) (v : ℕ) → l ≡ at_most v → T (is_number l v)
unfolding is_number
is-is_number l v e = rw e (eqb_refl v)

module _ (f : ℕ → ℕ) (d q : Limit) (a : ℕ → ℕ) where
  -- the link to the place after n is sound
  abbrev Link : List ℕ → List ℕ → List ℕ → ℕ → Type 0
  Link slots marks amounts n =
      (get_or slots n 0 < get_or slots (suc n) 0)
      × (amount f d q a (get_or marks (suc n) 0) (get_or slots n 0) (get_or slots (suc n) 0) ≡ at_most (get_or amounts (suc n) 0))

  link_read : (s t mark v : ℕ) → T (link_sound f d q a s t mark v) → (s < t) × (amount f d q a mark s t ≡ at_most v)
  unfolding link_sound
  link_read s t mark v h =
      let (up, has) = both (ltb s t) (is_number (amount f d q a mark s t) v) h in
      (ltb→lt s t up, is_number-is (amount f d q a mark s t) v has)

  link-made : (s t mark v : ℕ) → s < t → amount f d q a mark s t ≡ at_most v → T (link_sound f d q a s t mark v)
  unfolding link_sound
  link-made s t mark v up has = also (ltb s t) _ (lt→ltb s t up) (is-is_number (amount f d q a mark s t) v has)

  module _ (slots marks amounts : List ℕ) where
    links_read : (n : ℕ) → T (links_sound f d q a slots marks amounts n) → (k : ℕ) → k < n → Link slots marks amounts k
    unfolding links_sound
    links_read zero h k p = absurd (omega arith)
    links_read (suc n) h k p =
        let (before, link) = both (links_sound f d q a slots marks amounts n) _ h in
        elim (dec_le (suc k) n) [
          | yes r ↦ links_read n before k r
          | no r ↦ let e : k ≡ n = omega arith in rw e (link_read (get_or slots n 0) (get_or slots (suc n) 0) (get_or marks (suc n) 0) (get_or amounts (suc n) 0) link)
        ]

    links-made : (n : ℕ) → ((k : ℕ) → k < n → Link slots marks amounts k) → T (links_sound f d q a slots marks amounts n)
    unfolding links_sound
    links-made zero each = tt
    links-made (suc n) each =
        also (links_sound f d q a slots marks amounts n) _ (links-made n (λ k p. each k (omega arith)))
        (link-made (get_or slots n 0) (get_or slots (suc n) 0) (get_or marks (suc n) 0) (get_or amounts (suc n) 0) (each n (omega arith)).0 (each n (omega arith)).1)

    start_read : T (start_sound slots marks amounts) → (get_or slots 0 0 ≡ 0) × (get_or marks 0 0 ≡ 0) × (get_or amounts 0 0 ≡ 0)
    unfolding start_sound
    start_read h =
        let (s0, h) = both (eqb (get_or slots 0 0) 0) _ h in
        let (m0, v0) = both (eqb (get_or marks 0 0) 0) _ h in
        (eqb→eq (get_or slots 0 0) 0 s0, eqb→eq (get_or marks 0 0) 0 m0, eqb→eq (get_or amounts 0 0) 0 v0)

    start-made : (get_or slots 0 0 ≡ 0) → (get_or marks 0 0 ≡ 0) → (get_or amounts 0 0 ≡ 0) → T (start_sound slots marks amounts)
    unfolding start_sound
    start-made s0 m0 v0 = rw (s0, m0, v0) tt

    -- What the checker accepts is a sound chain ..
    pub accepted_chain : (t places : ℕ) → T (chain_sound f d q a t slots marks amounts places) → Chain f d q a t slots marks amounts places
    unfolding chain_sound
    accepted_chain t zero h = absurd h
    accepted_chain t (suc n) h =
        let (fits, h) = both (ltb n (length slots)) _ h in
        let (start, h) = both (start_sound slots marks amounts) _ h in
        let (links, end) = both (links_sound f d q a slots marks amounts n) _ h in
        let last : suc n - 1 ≡ n = omega arith in
        record {
          some = omega arith;
          fits = ltb→lt n (length slots) fits;
          starts = start_read start;
          rises = λ k p. (links_read n links k (omega arith)).0;
          ends = rw last (eqb→eq (get_or slots n 0) t end);
          amounts_right = λ k p. (links_read n links k (omega arith)).1;
        }

    -- .. and it accepts every sound chain.
    pub chain-accepted : (t places : ℕ) → Chain f d q a t slots marks amounts places → T (chain_sound f d q a t slots marks amounts places)
    unfolding chain_sound
    chain-accepted t zero sound = absurd (omega (arith, sound.some))
    chain-accepted t (suc n) sound =
        let last : suc n - 1 ≡ n = omega arith in
        let end : get_or slots n 0 ≡ t = rw last at sound.ends in
        also (ltb n (length slots)) _ (lt→ltb n (length slots) sound.fits)
        (also (start_sound slots marks amounts) _ (start-made sound.starts.0 sound.starts.1 sound.starts.2)
        (also (links_sound f d q a slots marks amounts n) (eqb (get_or slots n 0) t) (links-made n (λ k p. (sound.rises k (omega arith), sound.amounts_right k (omega arith)))) (rw end (eqb_refl t))))

  -- Places beyond the number are not looked at: lists that agree up to it get the same answer.
  module _ (slots marks amounts slots₂ marks₂ amounts₂ : List ℕ) (places : ℕ) (long : length slots ≡ length slots₂)
      (same : (k : ℕ) → k < places → (get_or slots k 0 ≡ get_or slots₂ k 0) × (get_or marks k 0 ≡ get_or marks₂ k 0) × (get_or amounts k 0 ≡ get_or amounts₂ k 0)) where
    start_same : 0 < places → start_sound slots marks amounts ≡ start_sound slots₂ marks₂ amounts₂
    unfolding start_sound
    start_same p = let (s, m, v) = same 0 p in rw (s, m, v) refl

    links_same : (n : ℕ) → n < places → links_sound f d q a slots marks amounts n ≡ links_sound f d q a slots₂ marks₂ amounts₂ n
    unfolding links_sound
    links_same zero p = refl
    links_same (suc n) p =
        let (s, _, _) = same n (omega arith) in
        let (s₂, m, v) = same (suc n) p in
        rw (links_same n (omega arith), s, s₂, m, v) refl

  pub sound_beyond : (t : ℕ) (slots marks amounts slots₂ marks₂ amounts₂ : List ℕ) (places : ℕ) → length slots ≡ length slots₂
      → ((k : ℕ) → k < places → (get_or slots k 0 ≡ get_or slots₂ k 0) × (get_or marks k 0 ≡ get_or marks₂ k 0) × (get_or amounts k 0 ≡ get_or amounts₂ k 0))
      → chain_sound f d q a t slots marks amounts places ≡ chain_sound f d q a t slots₂ marks₂ amounts₂ places
  unfolding chain_sound
  sound_beyond t slots marks amounts slots₂ marks₂ amounts₂ zero long same = refl
  sound_beyond t slots marks amounts slots₂ marks₂ amounts₂ (suc n) long same =
      rw (
        long,
        start_same slots marks amounts slots₂ marks₂ amounts₂ (suc n) long same (omega arith),
        links_same slots marks amounts slots₂ marks₂ amounts₂ (suc n) long same n (omega arith),
        (same n (omega arith)).0,
      ) refl
