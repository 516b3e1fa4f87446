-- What is printed for a file's bytes, whatever they are (document 01, "The stream file").
use Rattle.std.specs.Prelude.{ℕ, zero, suc, ◌+◌, ◌*◌, List, leb}
use Rattle.calculus.specs.Regulators.Rows.{admitted_row, dropped_row, departed_row}
use Rattle.refusals.specs.Limits.{delay_limit, buffer_limit}
use Rattle.stream.specs.Format.{delay, buffer, table_of, file_trace}
use Rattle.stream.specs.Refusals.{file_refusal}
use Rattle.text.specs.Lines.{table_text, refused_text}
use Rattle.calculus.specs.Numbers.Sizes.{most_trace}
use Rattle.text.specs.Printed.{only_if, line_room, heading_and_totals_room}

-- The table of a trace has its arrivals and theorem 5.1's rows for them.
abbrev pub run_text : List ℕ → ℕ → ℕ → List ℕ → List ℕ
run_text table d q trace =
    table_text trace
    (admitted_row table (delay_limit d) (buffer_limit q) trace)
    (dropped_row table (delay_limit d) (buffer_limit q) trace)
    (departed_row table (delay_limit d) (buffer_limit q) trace)

-- A file prints the table of what it holds. A refused one prints only the word refused and the number.
unfoldable pub text_by : ℕ → List ℕ → List ℕ
text_by zero file = run_text (table_of file) (delay file) (buffer file) (file_trace file)
text_by (suc number) file = refused_text (suc number)

unfoldable pub printed_text : List ℕ → List ℕ
printed_text file = text_by (file_refusal file) file

-- the bytes that hold any text
abbrev pub longest_text : ℕ
longest_text = line_room * most_trace + heading_and_totals_room

-- the text where there is room for the longest, else nothing
unfoldable pub printed_in : ℕ → List ℕ → List ℕ
printed_in room file = only_if (leb longest_text room) (printed_text file)
