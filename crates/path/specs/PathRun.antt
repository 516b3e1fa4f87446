-- The whole-trace run of regulators in a row (document 02, request 2.5): what it answers and leaves.
use Rattle.std.specs.Prelude.{ℕ, List, length}
use Rattle.path_calculus.specs.Path.{path_admitted_row, path_dropped_row, path_stage_rows}
use Rattle.orders.specs.Verdict.{Verdict}
use Rattle.refusals.specs.Limits.{delay_limit, buffer_limit}
use Rattle.orders.specs.Answered.{verdict_of, ListsFilled}
use Rattle.path.specs.Refusals.{path_refusal}

-- what a path's run answers and leaves in the three lent lists: admitted, dropped, and each stage's departures in turn
abbrev pub PathRan : ℕ → List (List ℕ) → ℕ → ℕ → List ℕ → List ℕ → List ℕ → List ℕ → Verdict → List ℕ → List ℕ → List ℕ → Type 0
PathRan stages tables d q trace ins drops outs verdict ins' drops' outs' =
    ListsFilled verdict_of (path_refusal stages tables d q trace (length ins) (length drops) (length outs))
    (path_admitted_row tables (delay_limit d) (buffer_limit q) trace) (path_dropped_row tables (delay_limit d) (buffer_limit q) trace) (path_stage_rows tables (delay_limit d) (buffer_limit q) trace)
    ins drops outs verdict ins' drops' outs'
