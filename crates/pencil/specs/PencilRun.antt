-- The pencil version's run (document 02, request 2.14): what is refused, and what it answers and leaves.
use Rattle.std.specs.Prelude.{List, ℕ, length}
use Rattle.calculus.specs.Numbers.Limit.{delay_limit, buffer_limit}
use Rattle.pencil_calculus.specs.Pencil.{pencil_admitted_row, pencil_dropped_row, pencil_departed_row}
use Rattle.orders.specs.Refusal.{◌or_else◌}
use Rattle.orders.specs.Verdict.{Verdict}
use Rattle.refusals.specs.Limits.{set_up_refusal}
use Rattle.refusals.specs.Lengths.{short_refusal, lists_refusal, counts_refusal}
use Rattle.orders.specs.Answered.{verdict_of, ListsFilled}

-- Set-up first, then 24 and 11, and 8 last.
unfoldable pub pencil_refusal : List ℕ → ℕ → ℕ → List ℕ → ℕ → ℕ → ℕ → ℕ
pencil_refusal table d q trace ins drops outs =
    set_up_refusal table d q
    or_else short_refusal (length trace)
    or_else (lists_refusal (length trace) ins or_else lists_refusal (length trace) drops or_else lists_refusal (length trace) outs)
    or_else counts_refusal trace

-- what the pencil answers and leaves in the three lent lists
abbrev pub PencilRan : List ℕ → ℕ → ℕ → List ℕ → List ℕ → List ℕ → List ℕ → Verdict → List ℕ → List ℕ → List ℕ → Type 0
PencilRan table d q trace ins drops outs verdict ins' drops' outs' =
    ListsFilled verdict_of (pencil_refusal table d q trace (length ins) (length drops) (length outs))
    (pencil_admitted_row table (delay_limit d) (buffer_limit q) trace) (pencil_dropped_row table (delay_limit d) (buffer_limit q) trace) (pencil_departed_row table (delay_limit d) (buffer_limit q) trace)
    ins drops outs verdict ins' drops' outs'
