-- `least_sums` keeps the two leasts of the sums passed.
use mathlib.Core.Path.{◌≡◌}
use Rattle.numbers.specs.LeastSum.{least_with}
use Rattle.trace.proofs.forecast.least_sums.Given as goal

abbrev pub invariant-loop-i : goal.invariant-loop-i
invariant-loop-i l = (l.soon ≡ least_with 4294967295 l.past l.near l.i) × (l.late ≡ least_with 4294967295 l.past l.far l.i)
