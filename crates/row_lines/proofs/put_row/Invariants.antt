-- `put_row` puts the word and then one number a turn: after i turns, the first i of them.
use lib.ListN.{take}
use Rattle.text.specs.Put.{Put}
use Rattle.row_lines.specs.Lines.{spaced}
use Rattle.row_lines.proofs.put_row.Given as goal

abbrev pub invariant-loop-number : goal.invariant-loop-number
invariant-loop-number l = Put l.initial.room l.initial.place (spaced (take l.number-index l.row)) l.room l.place
