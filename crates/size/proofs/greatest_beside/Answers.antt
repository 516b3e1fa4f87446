-- `greatest_beside` goes by cases as its definition does.
use mathlib.Core.Path.{sym, ap}
use Rattle.size.specs.Beside.{greatest_beside}
use Rattle.size.proofs.greatest_beside.Goals as goal

pub returns-in-Delay : goal.returns-in-Delay
unfolding greatest_beside
returns-in-Delay c = ap greatest_beside (sym c.in-Delay.is)

pub returns-in-Buffer : goal.returns-in-Buffer
unfolding greatest_beside
returns-in-Buffer c = ap greatest_beside (sym c.in-Buffer.is)
