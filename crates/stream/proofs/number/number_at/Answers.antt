-- `number_at` puts four bytes together.
use Rattle.std.proofs.Common.{rules, sym, arith}
use Rattle.stream.specs.Format.{number_at}
use Rattle.stream.proofs.FileNumbers.{number_past}
use Rattle.stream.proofs.number.number_at.Goals as goal

pub returns-then-i-file : goal.returns-then-i-file
returns-then-i-file c = sym (number_past c.args.file.now c.args.i (search rules))

pub returns : goal.returns
unfolding number_at
returns c = omega (arith, c.from_le_bytes.ensures, c.byte_at.ensures, c.byte_at-2.ensures, c.byte_at-3.ensures, c.byte_at-4.ensures)
