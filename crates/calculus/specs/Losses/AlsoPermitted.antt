-- Permitted pairs by hand (document 01, "The lowest loss curve"): pairs other than ours, and all the pairs of one short trace.
-- A pair is given by what it admits and departs in slots 1, 2, ..
use Rattle.std.specs.Prelude.{◌≡◌, List, [], ◌∷◌, ℕ, ◌+◌, ◌≤◌, length}
use Rattle.calculus.specs.Numbers.Limit.{Limit, at_most}
use Rattle.calculus.specs.Envelopes.Envelope.{windows}
use Rattle.calculus.specs.Losses.Permitted.{Permitted}
use Rattle.calculus.specs.Regulators.Trace.{arrivals, sum_to}
use Rattle.calculus.specs.Regulators.Rows.{envelope_of}

-- the pairs that are permitted for a table, the limits and a trace
unfoldable pub PermittedOn : List ℕ → Limit → Limit → List ℕ → (ℕ → ℕ) → (ℕ → ℕ) → Type 0
PermittedOn table d q trace u v = Permitted (windows (envelope_of table)) d q (arrivals trace) (length trace) u v

-- Table 0,2,3, d 1, q 9, arrivals 5,0,4,0, where we admit 3,0,3,0 and depart 2,1,2,1.
pub record OtherPairs : Type 0 where
  -- It may admit 2,0,1,0 and depart 1,1,1,0: less than we do.
  pub admits_less : PermittedOn (0 ∷ 2 ∷ 3 ∷ []) (at_most 1) (at_most 9) (5 ∷ 0 ∷ 4 ∷ 0 ∷ []) (sum_to (2 ∷ 0 ∷ 1 ∷ 0 ∷ [])) (sum_to (1 ∷ 1 ∷ 1 ∷ 0 ∷ []))
  -- It may admit as we do and depart 1,2,1,2: later than we do.
  pub departs_later : PermittedOn (0 ∷ 2 ∷ 3 ∷ []) (at_most 1) (at_most 9) (5 ∷ 0 ∷ 4 ∷ 0 ∷ []) (sum_to (3 ∷ 0 ∷ 3 ∷ 0 ∷ [])) (sum_to (1 ∷ 2 ∷ 1 ∷ 2 ∷ []))

-- Table 0,2,3, d 1, q 3, arrivals 5,0: the eight permitted pairs. U(1) is at most 3, V(1) at most 2, U(1) is V(1) or up to two more,
-- and slot 2 admits nothing and empties the buffer.
pub record EightPairs (u v : ℕ → ℕ) : Type 0 where
  pub starts : (u 0 ≡ 0) × (v 0 ≡ 0)
  pub admits_first : u 1 ≤ 3
  pub departs_first : v 1 ≤ 2
  pub waits_first : (v 1 ≤ u 1) × (u 1 ≤ v 1 + 2)
  pub admits_second : u 2 ≡ u 1
  pub departs_second : v 2 ≡ u 1
