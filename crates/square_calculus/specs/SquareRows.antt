-- The whole-trace run with an envelope that varies with time (document 02, request 2.10): rows by theorem 5.1, and demands 2 and 3 for
-- pairs that keep F.
use Rattle.std.specs.Prelude.{◌≡◌, List, ℕ, ◌+◌, ◌≤◌, length}
use Rattle.calculus.specs.Numbers.Limit.{Limit, none, at_most}
use Rattle.calculus.specs.Regulators.Clipper.{admitted}
use Rattle.calculus.specs.Regulators.Regulator.{departed, lost}
use Rattle.calculus.specs.Losses.Permitted.{Permitted}
use Rattle.calculus.specs.Losses.LossCurve.{LowestAmong}
use Rattle.calculus.specs.Regulators.Trace.{arrivals, slot_counts}
use Rattle.square_calculus.specs.Square.{closure_of, last_slot, square_envelope}

-- the closure of a square's F
unfoldable pub closed_envelope : List (List ℕ) → ℕ → ℕ → ℕ
closed_envelope square = closure_of (square_envelope square)

-- Rows by theorem 5.1: packets admitted, dropped and departed in each slot.
unfoldable pub square_admitted_row : List (List ℕ) → Limit → Limit → List ℕ → List ℕ
square_admitted_row square d q trace = slot_counts (admitted (closed_envelope square) d q (arrivals trace)) (length trace)

unfoldable pub square_dropped_row : List (List ℕ) → Limit → Limit → List ℕ → List ℕ
square_dropped_row square d q trace = slot_counts (lost (closed_envelope square) d q (arrivals trace)) (length trace)

unfoldable pub square_departed_row : List (List ℕ) → Limit → Limit → List ℕ → List ℕ
square_departed_row square d q trace = slot_counts (departed (closed_envelope square) d q (arrivals trace)) (length trace)

-- A trace that a square of 33 rows reaches: at most 32 - d slots, 32 with no delay limit.
pub record Reached (d : Limit) (T : ℕ) : Type 0 where
  pub slots : T ≤ last_slot
  pub delayed : (n : ℕ) → d ≡ at_most n → T + n ≤ last_slot

-- the last slot that a run of T slots looks at: T + d, or T with no delay limit
unfoldable pub last_looked : Limit → ℕ → ℕ
last_looked none T = T
last_looked (at_most n) T = T + n

-- The least loss that there is among pairs whose departures keep F.
-- Our totals are theorem 5.1's for the closure of F.
abbrev pub SquareLowestLoss : List (List ℕ) → Limit → Limit → List ℕ → List ℕ → List ℕ → List ℕ → Type 0
SquareLowestLoss square d q trace =
    LowestAmong (Permitted (square_envelope square) d q (arrivals trace) (length trace)) d (admitted (closed_envelope square) d q (arrivals trace))
    (departed (closed_envelope square) d q (arrivals trace)) trace
