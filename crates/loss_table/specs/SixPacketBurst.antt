-- Document 002's burst, cut into slots, as a stream file, and the table that document 01 prints for it, as request 2.9 restates it.
use Rattle.std.specs.Prelude.{◌≡◌, List, [], ◌∷◌, ℕ}
use Rattle.text.specs.Lines.{bytes}
use Rattle.loss_table.specs.Text.{printed_text}

-- L 6, T 4, m 4, d 255 for none, q 4; table 0,4,8,12,16,17,18; slots 1 to 4 with 6 each
unfoldable pub burst_file : List ℕ
burst_file =
    6 ∷ 0 ∷ 0 ∷ 0 ∷ 4 ∷ 0 ∷ 0 ∷ 0 ∷ 4 ∷ 0 ∷ 0 ∷ 0 ∷ 255 ∷ 0 ∷ 0 ∷ 0 ∷ 4 ∷ 0 ∷ 0 ∷ 0
    ∷ 0 ∷ 0 ∷ 0 ∷ 0 ∷ 4 ∷ 0 ∷ 0 ∷ 0 ∷ 8 ∷ 0 ∷ 0 ∷ 0 ∷ 12 ∷ 0 ∷ 0 ∷ 0 ∷ 16 ∷ 0 ∷ 0 ∷ 0 ∷ 17 ∷ 0 ∷ 0 ∷ 0 ∷ 18 ∷ 0 ∷ 0 ∷ 0
    ∷ 1 ∷ 0 ∷ 0 ∷ 0 ∷ 2 ∷ 0 ∷ 0 ∷ 0 ∷ 3 ∷ 0 ∷ 0 ∷ 0 ∷ 4 ∷ 0 ∷ 0 ∷ 0
    ∷ 6 ∷ 0 ∷ 0 ∷ 0 ∷ 6 ∷ 0 ∷ 0 ∷ 0 ∷ 6 ∷ 0 ∷ 0 ∷ 0 ∷ 6 ∷ 0 ∷ 0 ∷ 0 ∷ []

-- The program prints:
pub record SixPacketBurst : Type 0 where
  pub printed :
      printed_text burst_file
      ≡ bytes "slot arrived admitted dropped departed held\n1 6 4 2 4 0\n2 6 4 2 4 0\n3 6 4 2 4 0\n4 6 4 2 4 0\ntotal 24 16 8 16 0\n"
