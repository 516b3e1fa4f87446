-- The printed table of document 01's six-packet burst, as request 2.9 restates it, and a refusal, byte for byte: the definitions compute to them.
use mathlib.Core.Path.{◌≡◌, refl}
use mathlib.Core.List.{[], ◌∷◌}
use Rattle.calculus.specs.Regulators.Trace.{sum_to}
use Rattle.text.specs.Digits.{last_digit, digits_within, digits}
use Rattle.text.specs.Lines.{bytes, numbers, line, heading, held_after, slot_line, slot_lines, total_line, table_text, refused_text}

pub record StarredTable : Type 0 where
  pub six_packet-burst :
      table_text (6 ∷ 6 ∷ 6 ∷ 6 ∷ []) (4 ∷ 4 ∷ 4 ∷ 4 ∷ []) (2 ∷ 2 ∷ 2 ∷ 2 ∷ []) (4 ∷ 4 ∷ 4 ∷ 4 ∷ [])
      ≡ bytes "slot arrived admitted dropped departed held\n1 6 4 2 4 0\n2 6 4 2 4 0\n3 6 4 2 4 0\n4 6 4 2 4 0\ntotal 24 16 8 16 0\n"
  pub refused_12 : refused_text 12 ≡ bytes "refused 12\n"

pub starred-table : StarredTable
unfolding sum_to last_digit digits_within digits bytes numbers line heading held_after slot_line slot_lines total_line table_text refused_text
starred-table = record { six_packet-burst = refl; refused_12 = refl }
