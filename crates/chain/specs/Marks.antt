-- The numbers of the marks, in a chain's list and in a certificate's.
use Rattle.std.specs.Prelude.{ℕ}
use Rattle.chain.specs.declared.link.Mark.{Mark}
use Rattle.chain.specs.declared.link.Mark.TheVariants.{Arrivals, Delay, Buffer}

abbrev pub mark_number : Mark → ℕ
mark_number Arrivals = 1
mark_number Delay = 2
mark_number Buffer = 3
