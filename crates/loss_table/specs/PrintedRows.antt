-- The printed table in document 01's terms ("One slot", "The stream file"): lines made of A(t), X(t) and Y(t) of what a file holds.
use Rattle.std.specs.Prelude.{ℕ, zero, suc, ◌-◌, List, [], ◌∷◌, ◌++◌}
use Rattle.calculus.specs.Regulators.Clipper.{arrived}
use Rattle.calculus.specs.Regulators.Trace.{arrivals}
use Rattle.calculus.specs.Regulators.Rows.{admitted_by, departed_by, held_by}
use Rattle.refusals.specs.Limits.{delay_limit, buffer_limit}
use Rattle.stream.specs.Format.{delay, buffer, table_of, file_trace}
use Rattle.text.specs.Digits.{digits}
use Rattle.text.specs.Lines.{bytes, line}

-- A(t), X(t), Y(t) are packets arrived, admitted, departed in slots 1 to t.
abbrev pub arrived_total : List ℕ → ℕ → ℕ
arrived_total file = arrived (arrivals (file_trace file))

abbrev pub admitted_total : List ℕ → ℕ → ℕ
admitted_total file = admitted_by (table_of file) (delay_limit (delay file)) (buffer_limit (buffer file)) (file_trace file)

abbrev pub departed_total : List ℕ → ℕ → ℕ
departed_total file = departed_by (table_of file) (delay_limit (delay file)) (buffer_limit (buffer file)) (file_trace file)

-- Held after slot t: X(t) - Y(t).
abbrev pub held_total : List ℕ → ℕ → ℕ
held_total file = held_by (table_of file) (delay_limit (delay file)) (buffer_limit (buffer file)) (file_trace file)

-- The six fields are the slot, then packets arrived, admitted, dropped (arrived less admitted), departed in it, and held after it.
unfoldable pub row_line : List ℕ → ℕ → List ℕ
row_line file t =
    line (digits t)
    (arrivals (file_trace file) t
    ∷ (admitted_total file t - admitted_total file (t - 1))
    ∷ (arrivals (file_trace file) t - (admitted_total file t - admitted_total file (t - 1)))
    ∷ (departed_total file t - departed_total file (t - 1))
    ∷ held_total file t
    ∷ [])

-- one line for each of the slots 1 to t
unfoldable pub row_lines : List ℕ → ℕ → List ℕ
row_lines file zero = []
row_lines file (suc t) = row_lines file t ++ row_line file (suc t)

-- The last line has the word total, the four sums A(t), X(t), A(t) - X(t), Y(t) and the final held.
unfoldable pub sum_line : List ℕ → ℕ → List ℕ
sum_line file t =
    line (bytes "total")
    (arrived_total file t
    ∷ admitted_total file t
    ∷ (arrived_total file t - admitted_total file t)
    ∷ departed_total file t
    ∷ held_total file t
    ∷ [])
