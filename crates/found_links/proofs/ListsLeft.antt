-- What the finder leaves alone (document 02, request 2.8): refused, all three lists; else every place of them from the number of places on.
use mathlib.Core.Path.{◌≡◌, refl, sym, ap, ◌∙◌}
use mathlib.Core.List.{List, ◌++◌}
use Prim.Native.Nat.{ℕ, ◌+◌, ◌-◌, ◌≤◌}
use native.Mathlib.Omega.{arith}
use lib.ListN.{length, get_or, drop}
use lib.Seq.{get_or-append-add, get_or-drop}
use Rattle.chain_calculus.proofs.ChainSlots.{length-chain_marks, length-chain_amounts}
use Rattle.orders.proofs.Answered.{refused_list}
use Rattle.chain.specs.Refusals.{chain_refusal}
use Rattle.found_links.specs.Written.{written}
use Rattle.found_links.specs.FinderAnswer.{Finding}
use Rattle.found_links.specs.FinderAnswer.{Found}
use Rattle.found_links.specs.FinderAnswer as found
use Rattle.found_links.proofs.ChainExplains.{chain-listed}

-- A written list is as it was from the written places on.
written_rest : (p l : List ℕ) (n k : ℕ) → length p ≡ n → n ≤ k → get_or (written p l) k 0 ≡ get_or l k 0
unfolding written
written_rest p l n k long beyond =
    let place : k ≡ length p + (k - length p) = omega arith in
    ap (λ (at : ℕ). get_or (p ++ drop (length p) l) at 0) place
    ∙ get_or-append-add p (drop (length p) l) (k - length p) 0 ∙ get_or-drop (length p) l (k - length p) 0 ∙ ap (λ (at : ℕ). get_or l at 0) (sym place)

module _ (table : List ℕ) (d q : ℕ) (trace : List ℕ) (t : ℕ) (slots marks amounts : List ℕ) (slots' marks' amounts' : List ℕ) where
  pub find_left : (answer : Found) → Finding table d q trace t slots marks amounts answer slots' marks' amounts'
      → (chain_refusal table d q trace t (length slots) (length marks) (length amounts) ≡ 0 → ⊥) → (slots' ≡ slots) × (marks' ≡ marks) × (amounts' ≡ amounts)
  find_left answer finding some = (
    finding.slotted ∙ sym (refused_list _ _ some refl _ slots),
    finding.marked ∙ sym (refused_list _ _ some refl _ marks),
    finding.counted ∙ sym (refused_list _ _ some refl _ amounts),
  )

  pub find_rest : (places : ℕ) → Finding table d q trace t slots marks amounts (found.Places places) slots' marks' amounts' → (k : ℕ) → places ≤ k
      → (get_or slots' k 0 ≡ get_or slots k 0) × (get_or marks' k 0 ≡ get_or marks k 0) × (get_or amounts' k 0 ≡ get_or amounts k 0)
  find_rest places finding k beyond =
      let (many, ss, ms, vs) = chain-listed table d q trace t slots marks amounts places slots' marks' amounts' finding in (
        rw ss (written_rest _ slots places k (sym many) beyond),
        rw ms (written_rest _ marks places k (length-chain_marks _ _ _ _ t ∙ sym many) beyond),
        rw vs (written_rest _ amounts places k (length-chain_amounts _ _ _ _ t ∙ sym many) beyond),
      )
