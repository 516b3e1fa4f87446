-- What is refused of a stream file, in the file's own order (document 01, "Refused, by place": File).
use Rattle.std.specs.Prelude.{ℕ, ◌+◌, ◌*◌, ◌||◌, not, List, [], ◌∷◌, length, ltb, leb, eqb}
use Rattle.orders.specs.Refusal.{◌when◌, ◌or_else◌}
use Rattle.refusals.specs.Table.{last_refusal, values_refusal}
use Rattle.refusals.specs.Limits.{delay_refusal, buffer_refusal}
use Rattle.refusals.specs.Lengths.{length_refusal, counts_refusal}
use Rattle.stream.specs.Format.{last, slots, bursts, delay, buffer, table_of, burst_slots, burst_counts}

-- 12: fewer than 20 bytes
unfoldable pub few_bytes_refusal : ℕ → ℕ
few_bytes_refusal size = 12 when ltb size 20

-- 13: length is not 20 + 4 × (L+1) + 8 × m bytes
unfoldable pub size_refusal : ℕ → ℕ → ℕ → ℕ
size_refusal size last bursts = 13 when not (eqb size (20 + 4 * (last + 1) + 8 * bursts))

-- 14: a slot number 0, above T, or not above the one before; 0 stands before the first
unfoldable pub bursts_refusal : ℕ → ℕ → List ℕ → ℕ
bursts_refusal most before [] = 0
bursts_refusal most before (slot ∷ later) =
    14 when (eqb slot 0 || ltb most slot || leb slot before) or_else bursts_refusal most slot later

-- the sizes: 12, 1, 10 for T and m, 13
unfoldable pub sizes_refusal : List ℕ → ℕ
sizes_refusal file =
    few_bytes_refusal (length file)
    or_else last_refusal (last file)
    or_else (length_refusal (slots file) or_else length_refusal (bursts file))
    or_else size_refusal (length file) (last file) (bursts file)

-- the contents: 2, then the entries, 6, 7, 14 over all bursts, 8 over all counts
unfoldable pub contents_refusal : List ℕ → ℕ
contents_refusal file =
    values_refusal (table_of file)
    or_else delay_refusal (delay file)
    or_else buffer_refusal (buffer file)
    or_else bursts_refusal (slots file) 0 (burst_slots file)
    or_else counts_refusal (burst_counts file)

-- File: 12, 1, 10, 13, 2, then the entries, 6, 7, 14 over all bursts, 8 over all counts.
unfoldable pub file_refusal : List ℕ → ℕ
file_refusal file = sizes_refusal file or_else contents_refusal file
