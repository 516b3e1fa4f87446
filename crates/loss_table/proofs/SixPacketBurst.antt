-- The printed table of document 01's six-packet burst, from the file's bytes: the definitions compute to it.
use mathlib.Core.Path.{◌≡◌, refl}
use mathlib.Core.List.{[], ◌∷◌}
use Rattle.calculus.specs.Numbers.Lists.{list_of}
use Rattle.calculus.proofs.Regulators.StarredRows.{starred_rows}
use Rattle.orders.specs.Refusal.{pick, ◌when◌, ◌or_else◌}
use Rattle.refusals.specs.Table.{last_refusal, zero_refusal, entries_refusal}
use Rattle.refusals.specs.Limits.{delay_refusal, buffer_refusal, arrivals_refusal}
use Rattle.refusals.specs.Lengths.{length_refusal, counts_refusal}
use Rattle.stream.specs.Format.{number_at, delay, buffer, table_of, burst_slots, burst_counts, arrived_in, file_trace}
use Rattle.stream.specs.Refusals.{few_bytes_refusal, size_refusal, bursts_refusal, sizes_refusal, contents_refusal, file_refusal}
use Rattle.text.proofs.StarredTable.{starred-table}
use Rattle.loss_table.specs.Text.{text_by, printed_text}
use Rattle.loss_table.specs.SixPacketBurst.{burst_file, SixPacketBurst}

-- The file is accepted, and holds document 01's table, limits and arrivals.
burst-accepted : file_refusal burst_file ≡ 0
unfolding burst_file list_of pick ◌when◌ ◌or_else◌ last_refusal zero_refusal entries_refusal delay_refusal buffer_refusal arrivals_refusal length_refusal counts_refusal number_at table_of burst_slots burst_counts few_bytes_refusal size_refusal bursts_refusal sizes_refusal contents_refusal file_refusal
burst-accepted = refl

burst-table : table_of burst_file ≡ 0 ∷ 4 ∷ 8 ∷ 12 ∷ 16 ∷ 17 ∷ 18 ∷ []
unfolding burst_file list_of number_at table_of
burst-table = refl

burst-delay : delay burst_file ≡ 255
unfolding burst_file number_at
burst-delay = refl

burst-buffer : buffer burst_file ≡ 4
unfolding burst_file number_at
burst-buffer = refl

burst-trace : file_trace burst_file ≡ 6 ∷ 6 ∷ 6 ∷ 6 ∷ []
unfolding burst_file list_of number_at pick burst_slots burst_counts arrived_in file_trace
burst-trace = refl

pub six_packet-burst : SixPacketBurst
unfolding printed_text text_by
six_packet-burst =
    let rows = starred_rows.six_packet-burst in
    record {
      printed = rw (burst-accepted, burst-table, burst-delay, burst-buffer, burst-trace, rows.admits, rows.dropping, rows.departs) starred-table.six_packet-burst;
    }
