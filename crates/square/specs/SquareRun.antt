-- The whole-trace run with an envelope that varies with time (document 02, request 2.10): what it answers and leaves.
use Rattle.std.specs.Prelude.{ℕ, List, length}
use Rattle.square_calculus.specs.SquareRows.{square_admitted_row, square_dropped_row, square_departed_row}
use Rattle.orders.specs.Verdict.{Verdict}
use Rattle.refusals.specs.Limits.{delay_limit, buffer_limit}
use Rattle.orders.specs.Answered.{verdict_of, ListsFilled}
use Rattle.square.specs.RunRefusals.{square_run_refusal}

-- what the run answers and leaves in the three lent lists
abbrev pub SquareRan : List (List ℕ) → ℕ → ℕ → List ℕ → List ℕ → List ℕ → List ℕ → Verdict → List ℕ → List ℕ → List ℕ → Type 0
SquareRan square d q trace ins drops outs verdict ins' drops' outs' =
    ListsFilled verdict_of (square_run_refusal square d q trace (length ins) (length drops) (length outs))
    (square_admitted_row square (delay_limit d) (buffer_limit q) trace) (square_dropped_row square (delay_limit d) (buffer_limit q) trace) (square_departed_row square (delay_limit d) (buffer_limit q) trace)
    ins drops outs verdict ins' drops' outs'
