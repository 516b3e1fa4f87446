-- What a path's run works: the merged table in a room of 65 places, and each stage's row from the row of the stage before.
use Rattle.std.specs.Prelude.{◌≡◌, ℕ, zero, suc, ◌*◌, ◌≤◌, ◌<◌, min, max, List, [], ◌++◌, length, get_or}
use Rattle.calculus.specs.Numbers.Limit.{Limit, none}
use Rattle.calculus.specs.Regulators.Rows.{admitted_row, dropped_row, departed_row}
use Rattle.path_calculus.specs.Path.{path_admitted_row, path_dropped_row, path_stage_rows}
use Rattle.refusals.specs.Table.{table_refusal}

-- stands in the room for no entry; no table has an entry as large
abbrev pub no_entry : ℕ
no_entry = 4294967295

-- the room after one more table: at each place the smaller of its own and the table's entry
pub record LoweredBy (table : List ℕ) (entries : ℕ) (room : List ℕ) (entries' : ℕ) (room' : List ℕ) : Type 0 where
  pub counted : entries' ≡ max entries (length table)
  pub long : length room' ≡ length room
  pub each : (k : ℕ) → get_or room' k 0 ≡ min (get_or table k no_entry) (get_or room k 0)

-- what leaves the first i stages in each slot, a row being let in: each stage is a regulator without limits
unfoldable pub row_after : List (List ℕ) → List ℕ → ℕ → List ℕ
row_after tables row zero = row
row_after tables row (suc i) = departed_row (get_or tables i []) none none (row_after tables row i)

-- the rows of the first i stages, stage after stage
unfoldable pub rows_after : List (List ℕ) → List ℕ → ℕ → List ℕ
rows_after tables row zero = []
rows_after tables row (suc i) = rows_after tables row i ++ row_after tables row (suc i)

-- what a stage asks: an accepted table, a row of counts and as many places
pub record Passing (table row : List ℕ) (places : ℕ) : Type 0 where
  pub tabled : table_refusal table ≡ 0
  pub short : length row ≤ 4096
  pub few : (k : ℕ) → get_or row k 0 ≤ 1000000
  pub long : places ≡ length row

-- what the stages before the last ask: accepted tables, a row of counts, and its places for each of them
pub record Feeding (inner : ℕ) (tables : List (List ℕ)) (row : List ℕ) (places : ℕ) : Type 0 where
  pub three : inner ≤ 3
  pub tabled : (i : ℕ) → i < inner → table_refusal (get_or tables i []) ≡ 0
  pub short : length row ≤ 4096
  pub few : (k : ℕ) → get_or row k 0 ≤ 1000000
  pub long : inner * length row ≤ places

-- lists that hold a table's rows, and a path's
pub record RowsOf (table : List ℕ) (d q : Limit) (trace ins drops outs : List ℕ) : Type 0 where
  pub admits : ins ≡ admitted_row table d q trace
  pub dropped : drops ≡ dropped_row table d q trace
  pub departs : outs ≡ departed_row table d q trace

pub record PathRows (tables : List (List ℕ)) (d q : Limit) (trace ins drops outs : List ℕ) : Type 0 where
  pub admits : ins ≡ path_admitted_row tables d q trace
  pub dropped : drops ≡ path_dropped_row tables d q trace
  pub departs : outs ≡ path_stage_rows tables d q trace
