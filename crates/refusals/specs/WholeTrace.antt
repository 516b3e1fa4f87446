-- What is refused of a whole trace (document 01, "Refused, by place": Whole trace).
use Rattle.std.specs.Prelude.{ℕ, List, length}
use Rattle.orders.specs.Refusal.{◌or_else◌}
use Rattle.refusals.specs.Table.{table_refusal}
use Rattle.refusals.specs.Limits.{set_up_refusal}
use Rattle.refusals.specs.Lengths.{length_refusal, lists_refusal, counts_refusal}

-- A trace and the lists for it: 10, 11, 8.
unfoldable pub trace_refusal : List ℕ → ℕ → ℕ → ℕ → ℕ
trace_refusal trace ins drops outs =
    length_refusal (length trace)
    or_else (lists_refusal (length trace) ins or_else lists_refusal (length trace) drops or_else lists_refusal (length trace) outs)
    or_else counts_refusal trace

-- Whole trace: set-up, 10, 11, 8.
unfoldable pub run_refusal : List ℕ → ℕ → ℕ → List ℕ → ℕ → ℕ → ℕ → ℕ
run_refusal table d q trace ins drops outs = set_up_refusal table d q or_else trace_refusal trace ins drops outs

-- The regulator alone, which has no limits to be judged: table, 10, 11, 8.
unfoldable pub alone_refusal : List ℕ → List ℕ → ℕ → ℕ → ℕ → ℕ
alone_refusal table trace ins drops outs = table_refusal table or_else trace_refusal trace ins drops outs
