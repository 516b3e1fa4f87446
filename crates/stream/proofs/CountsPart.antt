-- The part that the reader hands back of an accepted file holds its counts, number by number, and lies where they stand; a refused
-- file's is empty and lies at the file's start.
use mathlib.Core.Path.{◌≡◌, refl, sym, ap, ◌∙◌}
use mathlib.Core.List.{List, []}
use Prim.Native.Nat.{ℕ, zero, suc, ◌+◌, ◌-◌, ◌*◌, ◌<◌}
use native.Mathlib.Omega.{arith}
use lib.ListN.{length, get_or, drop, length-drop}
use lib.Seq.{length-take-le, get_or-take, get_or-drop}
use Rattle.stream.specs.Format.{number_at, last, bursts, burst_counts}
use Rattle.stream.specs.Refusals.{file_refusal}
use Rattle.stream.specs.Handed.{counts_from, part_by, counts_part, place_by, counts_place}
use Rattle.stream.proofs.FileJudged.{file-accepted}
use Rattle.stream.proofs.Bursts.{count_at}
use Rattle.stream.proofs.FileNumbers.{number_alike}

module _ (file : List ℕ) (accepted : file_refusal file ≡ 0) where
  abbrev from : ℕ
  from = counts_from (last file) (bursts file)

  -- The part has 4m bytes.
  pub part_length : length (counts_part file) ≡ 4 * bursts file
  unfolding counts_part part_by
  part_length =
      rw accepted
      (length-take-le (4 * bursts file) (drop (from) file) (omega (arith, length-drop (from) file, (file-accepted file accepted).sizes.size)))

  -- Its bytes are the file's from the first count on.
  part_byte : (i : ℕ) → i < 4 * bursts file → get_or (counts_part file) i 0 ≡ get_or file (from + i) 0
  unfolding counts_part part_by
  part_byte i p = rw accepted (get_or-take (4 * bursts file) (drop (from) file) i 0 p ∙ get_or-drop (from) file i 0)

  -- Its numbers are the packets that arrived in each burst.
  pub part_count : (i : ℕ) → i < bursts file → number_at (counts_part file) i ≡ get_or (burst_counts file) i 0
  part_count i p =
      number_alike (counts_part file) file i (6 + last file + bursts file + i)
      (λ j q. part_byte (4 * i + j) (omega arith) ∙ ap (λ (at : ℕ). get_or file at 0) (omega arith))
      ∙ sym (count_at file i p)

  -- It lies in the file's block, and from its place on stand its bytes.
  pub part_lies : (block start : ℕ) → (counts_place file (block, start)).0 ≡ block
  unfolding counts_place place_by
  part_lies block start = rw accepted

  pub part_there : (block start i : ℕ) → i < 4 * bursts file
      → get_or (counts_part file) i 0 ≡ get_or file ((counts_place file (block, start)).1 - start + i) 0
  unfolding counts_place place_by
  part_there block start i p = rw accepted (part_byte i p ∙ ap (λ (at : ℕ). get_or file at 0) (omega arith))

-- A refused file's part is empty and lies at the file's start, wherever the file lies.
pub refused-part : (file : List ℕ) → (file_refusal file ≡ 0 → ⊥)
    → (counts_part file ≡ []) × ((block start : ℕ) → counts_place file (block, start) ≡ (block, start))
unfolding counts_part part_by counts_place place_by
refused-part file refused = by (file_refusal file) refl
  where
    by : (k : ℕ) → file_refusal file ≡ k → (part_by (file_refusal file) file ≡ []) × ((block start : ℕ) → place_by (file_refusal file) file (block, start) ≡ (block, start))
    by zero e = absurd (refused e)
    by (suc k) e = rw e (refl, λ block start. refl)
