-- What is refused of a run with an envelope that varies with time (document 02, request 2.10).
use Rattle.std.specs.Prelude.{ℕ, ◌+◌, List, length, ltb, eqb}
use Rattle.square_calculus.specs.Square.{last_slot}
use Rattle.orders.specs.Refusal.{pick, ◌when◌, ◌or_else◌}
use Rattle.refusals.specs.Limits.{limits_refusal}
use Rattle.refusals.specs.Lengths.{lists_refusal, counts_refusal}
use Rattle.square.specs.Refusals.{square_refusal}

-- 20: a trace longer than 32 - d slots, 32 with no delay limit; so every trace if d is 33 to 64
unfoldable pub reach_refusal : ℕ → ℕ → ℕ
reach_refusal d slots = 20 when ltb last_slot (slots + pick (eqb d 255) 0 d)

-- 19, then 3 and 4 along the rows, 6, 7, 23, 20, 11, 8.
unfoldable pub square_run_refusal : List (List ℕ) → ℕ → ℕ → List ℕ → ℕ → ℕ → ℕ → ℕ
square_run_refusal square d q trace ins drops outs =
    square_refusal square
    or_else limits_refusal d q
    or_else reach_refusal d (length trace)
    or_else (lists_refusal (length trace) ins or_else lists_refusal (length trace) drops or_else lists_refusal (length trace) outs)
    or_else counts_refusal trace
