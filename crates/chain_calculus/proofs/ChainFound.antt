-- Lists that begin with the found chain are the chain described, the checker accepts them, and their sum is X(t) (document 02, request 2.8).
use mathlib.Core.Path.{◌≡◌, ap, sym, ◌∙◌}
use mathlib.Core.List.{List}
use Prim.Native.Nat.{ℕ, zero, suc, ◌+◌, ◌-◌, ◌≤◌, ◌<◌}
use native.Mathlib.Omega.{arith}
use lib.Dec.{T}
use lib.ListN.{length, get_or, take, get_or-map}
use lib.Seq.{get_or-take}
use Rattle.calculus.specs.Numbers.Limit.{Limit, at_most}
use Rattle.calculus.specs.Envelopes.Envelope.{windows}
use Rattle.calculus.specs.Regulators.Clipper.{clipper_window, admitted}
use Rattle.calculus.specs.Regulators.Trace.{sum_to}
use Rattle.chain_calculus.specs.Chain.{amount, Chain, chain_sound}
use Rattle.chain_calculus.specs.ChainFound.{link_mark, link_amount, chain_slots, chain_marks, chain_amounts}
use Rattle.chain_calculus.specs.ChainDescribed.{Described}
use Rattle.calculus.proofs.Regulators.Clipper.{clipped-zero}
use Rattle.calculus.proofs.Regulators.Regulator.{admitted_by-windows}
use Rattle.chain_calculus.proofs.ChainChecker.{chain-accepted}
use Rattle.chain_calculus.proofs.ChainLink.{link_found, first-least, mark-least}
use Rattle.chain_calculus.proofs.ChainSlots.{places, places_some, slot_at, slot_at-first, slot_at-last, slot_at_back}

-- What a list begins with stands at its first places.
begins_at : (l p : List ℕ) (k n : ℕ) → take k l ≡ p → n < k → get_or l n 0 ≡ get_or p n 0
begins_at l p k n same r = sym (get_or-take k l n 0 r) ∙ ap (λ (m : List ℕ). get_or m n 0) same

module _ (f : ℕ → ℕ) (d q : Limit) (a : ℕ → ℕ) (t : ℕ) (slots marks amounts : List ℕ)
    (ss : take (places f d q a t) slots ≡ chain_slots f d q a t) (ms : take (places f d q a t) marks ≡ chain_marks f d q a t)
    (vs : take (places f d q a t) amounts ≡ chain_amounts f d q a t) where
  abbrev X : ℕ → ℕ
  X = admitted (windows f) d q a

  -- At each place stand a slot of the chain, its mark and its amount.
  slot_there : (n : ℕ) → n < places f d q a t → get_or slots n 0 ≡ slot_at f d q a t n
  slot_there n p = begins_at slots _ (places f d q a t) n ss p

  mark_there : (n : ℕ) → n < places f d q a t → get_or marks n 0 ≡ link_mark f d q a (slot_at f d q a t n)
  unfolding chain_marks link_mark
  mark_there n p = begins_at marks _ (places f d q a t) n ms p ∙ get_or-map (link_mark f d q a) (chain_slots f d q a t) n 0

  amount_there : (n : ℕ) → n < places f d q a t → get_or amounts n 0 ≡ link_amount f d q a (slot_at f d q a t n)
  unfolding chain_amounts link_amount
  amount_there n p = begins_at amounts _ (places f d q a t) n vs p ∙ get_or-map (link_amount f d q a) (chain_slots f d q a t) n 0

  -- Each link's amount is that of its mark, and with X at the slot before it makes X at the link's last slot.
  link_there : (n : ℕ) → suc n < places f d q a t
      → (get_or slots n 0 < get_or slots (suc n) 0)
      × (amount f d q a (get_or marks (suc n) 0) (get_or slots n 0) (get_or slots (suc n) 0) ≡ at_most (get_or amounts (suc n) 0))
      × (X (get_or slots (suc n) 0) ≡ get_or amounts (suc n) 0 + X (get_or slots n 0))
  link_there n p =
      let (back, some) = slot_at_back f d q a t n p in
      rw (slot_there n (omega arith), slot_there (suc n) p, mark_there (suc n) p, amount_there (suc n) p, back)
      (link_found f d q a (slot_at f d q a t (suc n)) some)

  -- The first place is 0, 0, 0.
  start_there : (get_or slots 0 0 ≡ 0) × (get_or marks 0 0 ≡ 0) × (get_or amounts 0 0 ≡ 0)
  unfolding link_mark link_amount
  start_there =
      let some : 0 < places f d q a t = places_some f d q a t in
      (slot_there 0 some ∙ slot_at-first f d q a t, rw (slot_at-first f d q a t) at (mark_there 0 some), rw (slot_at-first f d q a t) at (amount_there 0 some))

  -- The last is slot t.
  end_there : get_or slots (places f d q a t - 1) 0 ≡ t
  end_there =
      let some : 1 ≤ places f d q a t = places_some f d q a t in
      slot_there (places f d q a t - 1) (omega arith) ∙ slot_at-last f d q a t (places f d q a t - 1) (omega arith)

  -- The amounts up to place n make X at its slot.
  sum_there : (n : ℕ) → n < places f d q a t → sum_to amounts (suc n) ≡ X (get_or slots n 0)
  unfolding sum_to
  sum_there zero p =
      omega (arith, start_there.2, ap X start_there.0, admitted_by-windows f d q a 0, clipped-zero (λ s t. clipper_window f d q (t - s)) a)
  sum_there (suc n) p = omega (arith, sum_there n (omega arith), (link_there n p).2)

  chain_there : places f d q a t ≤ length slots → Chain f d q a t slots marks amounts (places f d q a t)
  chain_there fits =
      record {
        some = places_some f d q a t;
        fits = fits;
        starts = start_there;
        rises = λ n p. (link_there n p).0;
        ends = end_there;
        amounts_right = λ n p. (link_there n p).1;
      }

  -- Lists that begin with the found chain are the chain described ..
  pub chain_described : places f d q a t ≤ length slots → Described f d q a t slots marks amounts (places f d q a t)
  chain_described fits =
      record {
        chain = chain_there fits;
        makes = λ n p. record { marked = (link_there n p).1; made = (link_there n p).2 };
        earliest = λ n p.
            let (back, some) = slot_at_back f d q a t n p in
            rw (slot_there n (omega arith), slot_there (suc n) p, back) (first-least f d q a (slot_at f d q a t (suc n)) some);
        lowest = λ n p.
            let (back, some) = slot_at_back f d q a t n p in
            rw (slot_there n (omega arith), slot_there (suc n) p, mark_there (suc n) p, back) (mark-least f d q a (slot_at f d q a t (suc n)) some);
      }

  -- .. are accepted, and their sum is X(t).
  pub chain_attains : places f d q a t ≤ length slots
      → T (chain_sound f d q a t slots marks amounts (places f d q a t)) × (sum_to amounts (places f d q a t) ≡ admitted (windows f) d q a t)
  chain_attains fits =
      let some : 1 ≤ places f d q a t = places_some f d q a t in
      let e : suc (places f d q a t - 1) ≡ places f d q a t = omega arith in (
        chain-accepted f d q a slots marks amounts t (places f d q a t) (chain_there fits),
        omega (arith, sum_there (places f d q a t - 1) (omega arith), ap X end_there, ap (sum_to amounts) e),
      )
