-- A program that reads no more than 65,536 bytes answers a longer file all the same: the file cut there has the same text.
use mathlib.Core.Path.{◌≡◌, refl, sym, ◌∙◌}
use mathlib.Core.List.{List}
use Prim.Native.Nat.{ℕ}
use native.Mathlib.Decide.{dec_le}
use native.Mathlib.Omega.{arith}
use lib.ListN.{length, take}
use lib.Seq.{take_all}
use Rattle.stream.specs.Refusals.{file_refusal}
use Rattle.stream.proofs.LongFile.{long-cut}
use Rattle.loss_table.specs.Text.{printed_text}
use Rattle.loss_table.proofs.PrintedFile.{refused_text_lem}

pub long_file : (file : List ℕ) → printed_text (take 65536 file) ≡ printed_text file
long_file file =
    elim (dec_le (length file) 65536) [
      | yes p ↦ rw (take_all 65536 file p)
      | no p ↦
          let (same, refused) = long-cut file 65536 (omega arith) (omega arith) in
          sym (refused_text_lem (take 65536 file) (file_refusal file) refused (sym same)) ∙ refused_text_lem file (file_refusal file) refused refl
    ]
