-- The whole-trace run (document 01, "One slot" and "Refused, by place": Whole trace).
use Rattle.std.specs.Prelude.{ℕ, List, length}
use Rattle.calculus.specs.Numbers.Limit.{none}
use Rattle.calculus.specs.Regulators.Rows.{admitted_row, dropped_row, departed_row}
use Rattle.orders.specs.Answered.{verdict_of, ListsFilled}
use Rattle.orders.specs.Verdict.{Verdict}
use Rattle.refusals.specs.Limits.{delay_limit, buffer_limit}
use Rattle.refusals.specs.WholeTrace.{run_refusal, alone_refusal}

-- what a run answers and leaves in the three lent lists
abbrev pub Ran : List ℕ → ℕ → ℕ → List ℕ → List ℕ → List ℕ → List ℕ → Verdict → List ℕ → List ℕ → List ℕ → Type 0
Ran table d q trace ins drops outs verdict ins' drops' outs' =
    ListsFilled verdict_of (run_refusal table d q trace (length ins) (length drops) (length outs))
    (admitted_row table (delay_limit d) (buffer_limit q) trace) (dropped_row table (delay_limit d) (buffer_limit q) trace) (departed_row table (delay_limit d) (buffer_limit q) trace)
    ins drops outs verdict ins' drops' outs'

-- what the regulator alone answers and leaves in them: theorem 5.1's rows with both limits none (document 02, request 2.12)
abbrev pub RanAlone : List ℕ → List ℕ → List ℕ → List ℕ → List ℕ → Verdict → List ℕ → List ℕ → List ℕ → Type 0
RanAlone table trace ins drops outs verdict ins' drops' outs' =
    ListsFilled verdict_of (alone_refusal table trace (length ins) (length drops) (length outs))
    (admitted_row table none none trace) (dropped_row table none none trace) (departed_row table none none trace)
    ins drops outs verdict ins' drops' outs'
