-- The judge's numbers by hand, one for each rule: table 0,2,3, d 1, q 3, arrivals 5,4, of which we admit 3,2 and depart 2,1.
-- A rival is given by what it admits and departs in slots 1 and 2.
use Rattle.std.specs.Prelude.{◌≡◌, List, [], ◌∷◌, ℕ}
use Rattle.calculus.specs.Numbers.Limit.{at_most}
use Rattle.calculus.specs.Regulators.Trace.{arrivals, sum_to}
use Rattle.rival_calculus.specs.Broken.{rule_at}

unfoldable pub sample_rule : List ℕ → List ℕ → ℕ → ℕ
sample_rule admitted departed = rule_at (0 ∷ 2 ∷ 3 ∷ []) (at_most 1) (at_most 3) (arrivals (5 ∷ 4 ∷ [])) (sum_to admitted) (sum_to departed)

pub record BrokenSample : Type 0 where
  -- Ours break none.
  pub ours_first : sample_rule (3 ∷ 2 ∷ []) (2 ∷ 1 ∷ []) 1 ≡ 0
  pub ours_second : sample_rule (3 ∷ 2 ∷ []) (2 ∷ 1 ∷ []) 2 ≡ 0
  -- 1: 5 are admitted in slot 2, where 4 arrive.
  pub arrivals_broken : sample_rule (2 ∷ 5 ∷ []) (2 ∷ 0 ∷ []) 2 ≡ 1
  -- 2: 2 have departed by slot 1, and 1 is admitted.
  pub admitted_broken : sample_rule (1 ∷ 0 ∷ []) (2 ∷ 0 ∷ []) 1 ≡ 2
  -- 3: 2 and 2 depart, where two slots have 3.
  pub envelope_broken : sample_rule (3 ∷ 2 ∷ []) (2 ∷ 2 ∷ []) 2 ≡ 3
  -- 4: 4 are admitted by slot 1, and a buffer of 3 has let none depart before. None is late.
  pub buffer_broken : sample_rule (4 ∷ 0 ∷ []) (2 ∷ 0 ∷ []) 1 ≡ 4
  -- 5: of the 3 admitted in slot 1 only 2 have departed by slot 2. The buffer is not full.
  pub delay_broken : sample_rule (3 ∷ 0 ∷ []) (2 ∷ 0 ∷ []) 2 ≡ 5
  -- Both in one slot: the lower number.
  pub both_broken : sample_rule (3 ∷ 4 ∷ []) (2 ∷ 0 ∷ []) 2 ≡ 4
