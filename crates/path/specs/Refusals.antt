-- What is refused of a path of regulators in a row (document 02, request 2.5).
use Rattle.std.specs.Prelude.{ℕ, ◌*◌, List, [], ◌∷◌, length, take, ltb}
use Rattle.orders.specs.Refusal.{◌when◌, ◌or_else◌}
use Rattle.refusals.specs.Table.{table_refusal}
use Rattle.refusals.specs.Limits.{limits_refusal}
use Rattle.refusals.specs.Lengths.{length_refusal, lists_refusal, counts_refusal}

-- A path has one to four stages.
abbrev pub most_stages : ℕ
most_stages = 4

-- 17: a number of stages outside 1 to 4
unfoldable pub stages_refusal : ℕ → ℕ
stages_refusal stages = 17 when ltb stages 1 or_else 17 when ltb most_stages stages

-- the stages' tables: of the four that are lent, those beyond the number of stages are not looked at
unfoldable pub tables_of : ℕ → List ℕ → List ℕ → List ℕ → List ℕ → List (List ℕ)
tables_of stages first second third fourth = take stages (first ∷ second ∷ third ∷ fourth ∷ [])

-- the tables from the first on, each whole before the next
unfoldable pub tables_refusal : List (List ℕ) → ℕ
tables_refusal [] = 0
tables_refusal (table ∷ later) = table_refusal table or_else tables_refusal later

-- Path: 17, the tables, 6, 7, 23, 10, 11, 8. 11 is also for a list of stages that is not stages × slots long.
unfoldable pub path_refusal : ℕ → List (List ℕ) → ℕ → ℕ → List ℕ → ℕ → ℕ → ℕ → ℕ
path_refusal stages tables d q trace ins drops outs =
    stages_refusal stages or_else tables_refusal tables
    or_else limits_refusal d q
    or_else length_refusal (length trace)
    or_else (lists_refusal (length trace) ins or_else lists_refusal (length trace) drops or_else lists_refusal (stages * length trace) outs)
    or_else counts_refusal trace
