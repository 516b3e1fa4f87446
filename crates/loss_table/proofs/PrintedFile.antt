-- An accepted file that is read, run and printed gives the text of its definition; a refused one gives its number.
use mathlib.Core.Path.{◌≡◌, refl, sym, ◌∙◌}
use mathlib.Core.List.{List, []}
use Prim.Native.Nat.{ℕ, zero, suc, ◌+◌, ◌≤◌, ◌<◌}
use native.Mathlib.Omega.{arith}
use lib.ListN.{length}
use borrow.Author.Tests.{le-leb, lt-leb}
use Rattle.calculus.specs.Regulators.Trace.{slot_counts}
use Rattle.calculus.specs.Regulators.Rows.{admitted_row, dropped_row, departed_row}
use Rattle.calculus.proofs.Numbers.Lists.{length-list_of}
use Rattle.refusals.specs.Limits.{delay_limit, buffer_limit}
use Rattle.trace.specs.RunWork.{Workable}
use Rattle.trace.proofs.RunAnswer.{trace-accepted}
use Rattle.stream.specs.Format.{last, slots, delay, buffer, table_of, file_trace}
use Rattle.stream.specs.Refusals.{file_refusal}
use Rattle.stream.specs.Handed.{handed}
use Rattle.stream.proofs.FileJudged.{length-table, length-trace, file-accepted}
use Rattle.stream.proofs.HandedFile.{handed_over}
use Rattle.loss_table.proofs.FileWorkable.{file_workable}
use Rattle.text.specs.Lines.{refused_text}
use Rattle.text.specs.Printed.{only_if, Columns, table_printed, refused_printed, Printed}
use Rattle.text.proofs.Printed.{table_printed_lem, refused_fits}
use Rattle.loss_table.specs.Text.{run_text, text_by, printed_text, longest_text, printed_in}

module _ (table : List ℕ) (d q : ℕ) (trace : List ℕ) (fine : Workable table d q trace (length trace) (length trace) (length trace)) where
  -- The rows of a trace are columns of a printed table.
  run_columns : Columns trace (admitted_row table (delay_limit d) (buffer_limit q) trace) (dropped_row table (delay_limit d) (buffer_limit q) trace)
      (departed_row table (delay_limit d) (buffer_limit q) trace)
  unfolding admitted_row dropped_row departed_row slot_counts
  run_columns =
      record {
        slots = (trace-accepted trace _ _ _ fine.traced).short;
        admitted_slots = length-list_of _ (length trace);
        dropped_slots = length-list_of _ (length trace);
        departed_slots = length-list_of _ (length trace);
      }

  -- Filled with theorem 5.1's rows and printed, the lists give the trace's text.
  pub run_printed : {ins drops outs out out' : List ℕ} {r : ℕ}
      → (ins ≡ admitted_row table (delay_limit d) (buffer_limit q) trace) × (drops ≡ dropped_row table (delay_limit d) (buffer_limit q) trace) × (outs ≡ departed_row table (delay_limit d) (buffer_limit q) trace)
      → longest_text ≤ length out → Printed out (table_printed trace ins drops outs (length out)) out' r → Printed out (run_text table d q trace) out' r
  run_printed {out = out} filled room printed =
      rw (filled.0, filled.1, filled.2, table_printed_lem trace _ _ _ (length out) run_columns (omega (arith, run_columns.slots, room))) at printed

module _ (file table arrived : List ℕ) (accepted : file_refusal file ≡ 0) (entries : length table ≡ last file + 1) (many : length arrived ≡ slots file) where
  -- The lists hold the file's table and trace.
  table-held : handed (file_refusal file) (table_of file) table ≡ table_of file
  table-held = sym (handed_over (file_refusal file) (table_of file) table accepted (entries ∙ sym (length-table file)))

  trace-held : handed (file_refusal file) (file_trace file) arrived ≡ file_trace file
  trace-held = sym (handed_over (file_refusal file) (file_trace file) arrived accepted (many ∙ sym (length-trace file)))

  module _ {d q : ℕ} {table' arrived' : List ℕ} (same-table : table' ≡ handed (file_refusal file) (table_of file) table)
      (same-trace : arrived' ≡ handed (file_refusal file) (file_trace file) arrived) (delays : d ≡ delay file) (buffers : q ≡ buffer file) where
    -- So their slots can be worked.
    pub file_asks : Workable table' d q arrived' (length arrived') (length arrived') (length arrived')
    file_asks =
        rw (same-table ∙ table-held, same-trace ∙ trace-held, delays, buffers, length-trace file)
        (file_workable file (file-accepted file accepted))

    -- What is printed of them is the file's text.
    pub file_printed : {out out' : List ℕ} {r : ℕ} → Printed out (run_text table' d q arrived') out' r → Printed out (printed_text file) out' r
    unfolding printed_text text_by
    file_printed printed = rw accepted (rw (same-table ∙ table-held, same-trace ∙ trace-held, delays, buffers) at printed)

-- A file that gets a number is printed as that refusal.
pub refused_text_lem : (file : List ℕ) (number : ℕ) → (number ≡ 0 → ⊥) → number ≡ file_refusal file → refused_text number ≡ printed_text file
unfolding printed_text text_by
refused_text_lem file zero p e = absurd (p refl)
refused_text_lem file (suc number) p e = rw (← e)

-- Where there is room the text is printed, and where there is not nothing is.
pub printed_fits : (file : List ℕ) (room : ℕ) → longest_text ≤ room → printed_in room file ≡ printed_text file
unfolding printed_in only_if
printed_fits file room p = rw (le-leb longest_text room p)

pub printed_left_out : (file : List ℕ) (room : ℕ) → room < longest_text → printed_in room file ≡ []
unfolding printed_in only_if
printed_left_out file room p = rw (lt-leb longest_text room p)

-- So the refusal of a file that gets a number is what is printed, where there is room.
pub refused_prints : (file : List ℕ) (number room : ℕ) → (number ≡ 0 → ⊥) → number ≡ file_refusal file → longest_text ≤ room
    → refused_printed number room ≡ printed_in room file
refused_prints file number room some e p =
    refused_fits number room (omega arith) ∙ refused_text_lem file number some e ∙ sym (printed_fits file room p)
