-- Theorem 7.4's condition is tight (document 000, for document 02, request 2.11): two streams that bring two packets each in slot 1, and a
-- port of one packet a slot.
use Rattle.std.specs.Prelude.{◌≡◌, List, [], ◌∷◌, ℕ, zero, suc, length, get_or}
use Rattle.port_calculus.specs.Port.{sum_below, late_row}
use Rattle.port_calculus.specs.PortEnvelopes.{due_within}

-- an envelope of two packets in any window
unfoldable pub two_packets : ℕ → ℕ
two_packets zero = 0
two_packets (suc k) = 2

-- what two such streams may bring and have due in a window of k slots
unfoldable pub two_due : List ℕ → ℕ → ℕ
two_due deadlines k = sum_below (λ i. due_within two_packets (get_or deadlines i 0) k) (length deadlines)

pub record PortTight : Type 0 where
  -- Deadlines 1 and 3 leave no slot to spare, and no packet is late.
  pub two : two_due (1 ∷ 3 ∷ []) 2 ≡ 2
  pub four : two_due (1 ∷ 3 ∷ []) 4 ≡ 4
  pub in_time : late_row (1 ∷ 3 ∷ []) 4 1 (2 ∷ 0 ∷ 0 ∷ 0 ∷ 2 ∷ 0 ∷ 0 ∷ 0 ∷ []) ≡ 0 ∷ 0 ∷ []
  -- With deadline 2 for 3, four packets may be due in three slots, and one is late.
  pub three : two_due (1 ∷ 2 ∷ []) 3 ≡ 4
  pub late : late_row (1 ∷ 2 ∷ []) 4 1 (2 ∷ 0 ∷ 0 ∷ 0 ∷ 2 ∷ 0 ∷ 0 ∷ 0 ∷ []) ≡ 0 ∷ 1 ∷ []
