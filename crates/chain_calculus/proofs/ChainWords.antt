-- A sound chain is exactly what request 2.8 says, in its words and mark by mark.
use mathlib.Core.Path.{◌≡◌}
use mathlib.Core.List.{List}
use Prim.Native.Nat.{ℕ, suc, ◌-◌, ◌≤◌, ◌<◌}
use lib.ListN.{length, get_or}
use Rattle.calculus.specs.Numbers.Limit.{Limit}
use Rattle.chain_calculus.specs.Chain.{Chain}
use Rattle.chain_calculus.specs.ChainWords.{LinkWords}
use Rattle.chain_calculus.proofs.LinkWords.{words-amount, amount_words}

module _ (f : ℕ → ℕ) (d q : Limit) (a : ℕ → ℕ) (t : ℕ) (slots marks amounts : List ℕ) (places : ℕ) where
  -- The number of places is from 1 to the lists' length, the first place is 0, 0, 0, the slots rise from 0 to t, and each link has an
  -- allowed mark and that mark's amount: then the chain is sound, however its links were found ..
  pub words_chain : (1 ≤ places) × (places ≤ length slots)
      → (get_or slots 0 0 ≡ 0) × (get_or marks 0 0 ≡ 0) × (get_or amounts 0 0 ≡ 0)
      → ((n : ℕ) → suc n < places → get_or slots n 0 < get_or slots (suc n) 0) → get_or slots (places - 1) 0 ≡ t
      → ((n : ℕ) → suc n < places → LinkWords f d q a (get_or slots n 0) (get_or slots (suc n) 0) (get_or amounts (suc n) 0) (get_or marks (suc n) 0))
      → Chain f d q a t slots marks amounts places
  words_chain number first rises last links =
      record {
        some = number.0;
        fits = number.1;
        starts = (first.0, first.1, first.2);
        rises = rises;
        ends = last;
        amounts_right = λ n p. words-amount f d q a (get_or slots n 0) (get_or slots (suc n) 0) (get_or amounts (suc n) 0) (links n p);
      }

  -- .. and all of this holds of every sound chain.
  pub chain_words : Chain f d q a t slots marks amounts places
      → ((1 ≤ places) × (places ≤ length slots)) × ((get_or slots 0 0 ≡ 0) × (get_or marks 0 0 ≡ 0) × (get_or amounts 0 0 ≡ 0))
      × ((n : ℕ) → suc n < places → get_or slots n 0 < get_or slots (suc n) 0) × (get_or slots (places - 1) 0 ≡ t)
      × ((n : ℕ) → suc n < places → LinkWords f d q a (get_or slots n 0) (get_or slots (suc n) 0) (get_or amounts (suc n) 0) (get_or marks (suc n) 0))
  chain_words chain = (
    (chain.some, chain.fits),
    (chain.starts.0, chain.starts.1, chain.starts.2),
    chain.rises,
    chain.ends,
    λ n p. amount_words f d q a (get_or marks (suc n) 0) (get_or slots n 0) (get_or slots (suc n) 0) (get_or amounts (suc n) 0) (chain.rises n p) (chain.amounts_right n p),
  )
