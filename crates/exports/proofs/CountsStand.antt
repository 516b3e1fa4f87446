-- Where the counts of a stream file stand: an accepted file ends with them, and a refused one has none at its start.
use mathlib.Core.Path.{◌≡◌, refl, sym, ap, ◌∙◌}
use mathlib.Core.List.{List}
use Prim.Native.Nat.{ℕ, zero, suc, ◌-◌, ◌≤◌}
use native.Mathlib.Omega.{arith}
use lib.ListN.{length}
use Rattle.stream.specs.Refusals.{file_refusal}
use Rattle.stream.specs.Handed.{counts_part, place_by, counts_place}
use Rattle.stream.proofs.FileJudged.{file-accepted}
use Rattle.stream.proofs.CountsPart.{part_length}
use Rattle.c_answers.specs.declared.answer.Part.{Part}
use Rattle.c_answers.specs.Numbered.{part_of}

module _ (file part : List ℕ) (handed : part ≡ counts_part file) where
  -- A refused file has the empty part at its start.
  pub part_none : (number : ℕ) → (number ≡ 0 → ⊥) → number ≡ file_refusal file
      → ◌≡◌ {A = Part} (record { number = number; from = 0; bytes = length part }) (part_of file)
  unfolding part_of counts_place place_by
  part_none zero p e = absurd (p refl)
  part_none (suc number) p e = rw (handed, ← e)

  -- An accepted file ends with its counts.
  pub part_inside : file_refusal file ≡ 0 → length part ≤ length file
  part_inside e = omega (arith, ap length handed, part_length file e, (file-accepted file e).sizes.size)

  pub part-last : (number : ℕ) → number ≡ 0 → number ≡ file_refusal file
      → ◌≡◌ {A = Part} (record { number = number; from = length file - length part; bytes = length part }) (part_of file)
  unfolding part_of counts_place place_by
  part-last number none e =
      let ok : file_refusal file ≡ 0 = sym e ∙ none in
      let size : length file - length part ≡ (counts_place file (0, 0)).1 = rw ok (omega (arith, ap length handed, part_length file ok, (file-accepted file ok).sizes.size)) in
      rw (size, handed, e)
