-- Lines of rows, byte for byte, and a room that is too small: the definitions compute to them.
use mathlib.Core.Path.{◌≡◌, refl}
use mathlib.Core.List.{[], ◌∷◌}
use Rattle.text.specs.Digits.{last_digit, digits_within, digits}
use Rattle.text.specs.Lines.{bytes}
use Rattle.text.specs.Put.{stored}
use Rattle.row_lines.specs.Lines.{spaced, labelled}

pub record LineSamples : Type 0 where
  pub table_row : labelled (bytes "table") (3 ∷ 0 ∷ 105 ∷ []) ≡ bytes "table 3 0 105"
  pub word_alone : labelled (bytes " lists") [] ≡ bytes " lists"
  pub room_too_small : stored (bytes "abcdef") 2 (labelled (bytes "k") (40 ∷ 9 ∷ [])) ≡ bytes "abk 40"
  pub after_the_end : stored (bytes "abc") 3 (bytes "k") ≡ bytes "abc"

pub line_samples : LineSamples
unfolding last_digit digits_within digits bytes stored spaced labelled
line_samples = record { table_row = refl; word_alone = refl; room_too_small = refl; after_the_end = refl }
