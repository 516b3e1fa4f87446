-- A file with both marks is printed by the regulator alone: nothing is dropped, and the rows are theorem 5.1's with both limits none.
use mathlib.Core.Path.{◌≡◌, refl}
use mathlib.Core.List.{List, [], ◌∷◌}
use Prim.Native.Nat.{ℕ}
use Rattle.calculus.specs.Numbers.Lists.{list_of}
use Rattle.calculus.specs.Regulators.Trace.{sum_to}
use Rattle.calculus.proofs.Regulators.StarredRows.{starred_rows}
use Rattle.orders.specs.Refusal.{pick, ◌when◌, ◌or_else◌}
use Rattle.refusals.specs.Table.{last_refusal, zero_refusal, entries_refusal}
use Rattle.refusals.specs.Limits.{delay_refusal, buffer_refusal, arrivals_refusal}
use Rattle.refusals.specs.Lengths.{length_refusal, counts_refusal}
use Rattle.refusals.proofs.AcceptedSettings.{no-delay, no_buffer}
use Rattle.stream.specs.Format.{number_at, delay, buffer, table_of, burst_slots, burst_counts, arrived_in, file_trace}
use Rattle.stream.specs.Refusals.{few_bytes_refusal, size_refusal, bursts_refusal, sizes_refusal, contents_refusal, file_refusal}
use Rattle.text.specs.Digits.{last_digit, digits_within, digits}
use Rattle.text.specs.Lines.{bytes, numbers, line, heading, held_after, slot_line, slot_lines, total_line, table_text}
use Rattle.trace.proofs.Alone.{alone-admits, alone-drops}
use Rattle.loss_table.specs.Text.{text_by, printed_text}
use Rattle.loss_table.specs.BothMarks.{PrintedAlone, unlimited_file, UnlimitedFile}

pub both_marks : (file : List ℕ) → file_refusal file ≡ 0 → delay file ≡ 255 → buffer file ≡ 4294967295 → PrintedAlone file
unfolding printed_text text_by
both_marks file accepted delays buffers =
    record {
      printed = rw (accepted, delays, buffers, no-delay.1, no_buffer.1, alone-admits (table_of file) (file_trace file)) refl;
      nothing_dropped = alone-drops (table_of file) (file_trace file);
    }

-- Document 01's row as such a file is accepted, and holds the row's table, limits and arrivals.
unlimited-accepted : file_refusal unlimited_file ≡ 0
unfolding unlimited_file list_of pick ◌when◌ ◌or_else◌ last_refusal zero_refusal entries_refusal delay_refusal buffer_refusal arrivals_refusal length_refusal counts_refusal number_at table_of burst_slots burst_counts few_bytes_refusal size_refusal bursts_refusal sizes_refusal contents_refusal file_refusal
unlimited-accepted = refl

unlimited-table : table_of unlimited_file ≡ 0 ∷ 2 ∷ 3 ∷ []
unfolding unlimited_file list_of number_at table_of
unlimited-table = refl

unlimited-delay : delay unlimited_file ≡ 255
unfolding unlimited_file number_at
unlimited-delay = refl

unlimited-buffer : buffer unlimited_file ≡ 4294967295
unfolding unlimited_file number_at
unlimited-buffer = refl

unlimited-trace : file_trace unlimited_file ≡ 5 ∷ 0 ∷ 4 ∷ []
unfolding unlimited_file list_of number_at pick burst_slots burst_counts arrived_in file_trace
unlimited-trace = refl

unlimited_text :
    table_text (5 ∷ 0 ∷ 4 ∷ []) (5 ∷ 0 ∷ 4 ∷ []) (0 ∷ 0 ∷ 0 ∷ []) (2 ∷ 1 ∷ 2 ∷ [])
    ≡ bytes "slot arrived admitted dropped departed held\n1 5 5 0 2 3\n2 0 0 0 1 2\n3 4 4 0 2 4\ntotal 9 9 0 5 4\n"
unfolding sum_to last_digit digits_within digits bytes numbers line heading held_after slot_line slot_lines total_line table_text
unlimited_text = refl

pub unlimited_file_lem : UnlimitedFile
unfolding printed_text text_by
unlimited_file_lem =
    let rows = starred_rows.no_limits in
    record {
      printed = rw (unlimited-accepted, unlimited-table, unlimited-delay, unlimited-buffer, unlimited-trace, rows.admits, rows.dropping, rows.departs) unlimited_text;
    }
