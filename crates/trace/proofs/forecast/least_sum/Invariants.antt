-- `least_sum` keeps the least of the sums passed.
use mathlib.Core.Path.{◌≡◌}
use Rattle.numbers.specs.LeastSum.{least_with}
use Rattle.trace.proofs.forecast.least_sum.Given as goal

abbrev pub invariant-loop-i : goal.invariant-loop-i
invariant-loop-i l = l.least ≡ least_with 4294967295 l.past l.windows l.i
