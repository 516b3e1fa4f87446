-- A chain by hand (document 02, request 2.8): table 0,2,3, d 1, q 9, arrivals 5,0,4,0, of which 3,0,3,0 are admitted, and slot 4.
use Rattle.std.specs.Prelude.{◌≡◌, Bool, true, false, List, [], ◌∷◌, ℕ}
use Rattle.calculus.specs.Numbers.Limit.{none, at_most}
use Rattle.calculus.specs.Regulators.Trace.{arrivals}
use Rattle.calculus.specs.Regulators.Rows.{envelope_of}
use Rattle.chain_calculus.specs.Chain.{chain_sound}
use Rattle.chain_calculus.specs.ChainFound.{chain_slots, chain_marks, chain_amounts}

-- the checker, asked for slot 4 of the sample
unfoldable pub sample_sound : List ℕ → List ℕ → List ℕ → ℕ → Bool
sample_sound = chain_sound (envelope_of (0 ∷ 2 ∷ 3 ∷ [])) (at_most 1) (at_most 9) (arrivals (5 ∷ 0 ∷ 4 ∷ 0 ∷ [])) 4

pub record ChainSample : Type 0 where
  -- f(3+1) = 6 from slot 0 to slot 3, and no arrivals after it: 6 packets by slot 4.
  pub slots : chain_slots (envelope_of (0 ∷ 2 ∷ 3 ∷ [])) (at_most 1) (at_most 9) (arrivals (5 ∷ 0 ∷ 4 ∷ 0 ∷ [])) 4 ≡ 0 ∷ 3 ∷ 4 ∷ []
  pub marks : chain_marks (envelope_of (0 ∷ 2 ∷ 3 ∷ [])) (at_most 1) (at_most 9) (arrivals (5 ∷ 0 ∷ 4 ∷ 0 ∷ [])) 4 ≡ 0 ∷ 2 ∷ 1 ∷ []
  pub amounts : chain_amounts (envelope_of (0 ∷ 2 ∷ 3 ∷ [])) (at_most 1) (at_most 9) (arrivals (5 ∷ 0 ∷ 4 ∷ 0 ∷ [])) 4 ≡ 0 ∷ 6 ∷ 0 ∷ []
  -- The lowest mark is taken: two packets arrive in slot 1, and f(1) lets two be in time.
  pub tie : chain_marks (envelope_of (0 ∷ 2 ∷ 3 ∷ [])) (at_most 0) (at_most 9) (arrivals (2 ∷ [])) 1 ≡ 0 ∷ 1 ∷ []
  -- A buffer link over four slots of the six-packet burst (request 2.9): f(3) + 4 = 16.
  pub buffer_marks : chain_marks (envelope_of (0 ∷ 4 ∷ 8 ∷ 12 ∷ 16 ∷ 17 ∷ 18 ∷ [])) none (at_most 4) (arrivals (6 ∷ 6 ∷ 6 ∷ 6 ∷ [])) 4 ≡ 0 ∷ 3 ∷ []
  pub buffer_amounts : chain_amounts (envelope_of (0 ∷ 4 ∷ 8 ∷ 12 ∷ 16 ∷ 17 ∷ 18 ∷ [])) none (at_most 4) (arrivals (6 ∷ 6 ∷ 6 ∷ 6 ∷ [])) 4 ≡ 0 ∷ 16 ∷ []
  -- The checker accepts it, whatever the rest of the lists, and another chain too: 9 arrivals by slot 4.
  pub accepts : sample_sound (0 ∷ 3 ∷ 4 ∷ 7 ∷ 7 ∷ []) (0 ∷ 2 ∷ 1 ∷ 7 ∷ 7 ∷ []) (0 ∷ 6 ∷ 0 ∷ 7 ∷ 7 ∷ []) 3 ≡ true
  pub accepts_looser : sample_sound (0 ∷ 4 ∷ []) (0 ∷ 1 ∷ []) (0 ∷ 9 ∷ []) 2 ≡ true
  -- It refuses another amount, a mark that is none of the three, slots that do not rise, another last slot, and no places.
  pub refuses_amount : sample_sound (0 ∷ 3 ∷ 4 ∷ []) (0 ∷ 2 ∷ 1 ∷ []) (0 ∷ 6 ∷ 1 ∷ []) 3 ≡ false
  pub refuses_mark : sample_sound (0 ∷ 4 ∷ []) (0 ∷ 4 ∷ []) (0 ∷ 9 ∷ []) 2 ≡ false
  pub refuses_standstill : sample_sound (0 ∷ 4 ∷ 4 ∷ []) (0 ∷ 1 ∷ 1 ∷ []) (0 ∷ 9 ∷ 0 ∷ []) 3 ≡ false
  pub refuses_end : sample_sound (0 ∷ 3 ∷ []) (0 ∷ 2 ∷ []) (0 ∷ 6 ∷ []) 2 ≡ false
  pub refuses_none : sample_sound (0 ∷ 4 ∷ []) (0 ∷ 1 ∷ []) (0 ∷ 9 ∷ []) 0 ≡ false
  -- Nor does it look beyond the lists.
  pub refuses_more : sample_sound (0 ∷ 4 ∷ []) (0 ∷ 1 ∷ []) (0 ∷ 9 ∷ []) 3 ≡ false
