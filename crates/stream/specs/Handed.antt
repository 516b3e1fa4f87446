-- What the reader hands over of a file that it accepts, and of one that it refuses (document 01, "The stream file").
use Rattle.std.specs.Prelude.{ℕ, zero, suc, ◌+◌, ◌*◌, ◌&&◌, List, [], length, take, drop, eqb}
use Rattle.orders.specs.Refusal.{pick}
use Rattle.stream.specs.Format.{last, bursts}
use Rattle.stream.specs.Refusals.{file_refusal}

-- a lent list afterwards: what the file holds, where the file gets no number and the list is as long; else as it was
unfoldable pub handed : ℕ → List ℕ → List ℕ → List ℕ
handed number held before = pick (eqb number 0 && eqb (length before) (length held)) held before

-- the place of the counts' first byte, for L and m
abbrev pub counts_from : ℕ → ℕ → ℕ
counts_from last bursts = 4 * (6 + last + bursts)

-- It hands back the 4m bytes of the lent file that hold the counts, or the empty part at the file's start if the file is refused:
-- what the part holds,
unfoldable pub part_by : ℕ → List ℕ → List ℕ
part_by zero file = take (4 * bursts file) (drop (counts_from (last file) (bursts file)) file)
part_by (suc number) file = []

unfoldable pub counts_part : List ℕ → List ℕ
counts_part file = part_by (file_refusal file) file

-- and where it lies in memory, the file lying at a place: a block, and a byte of it.
unfoldable pub place_by : ℕ → List ℕ → ℕ × ℕ → ℕ × ℕ
place_by zero file (block, start) = (block, counts_from (last file) (bursts file) + start)
place_by (suc number) file (block, start) = (block, start)

unfoldable pub counts_place : List ℕ → ℕ × ℕ → ℕ × ℕ
counts_place file = place_by (file_refusal file) file
