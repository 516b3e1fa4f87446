-- `depart` cuts by one bucket after another.
use mathlib.Core.Path.{◌≡◌}
use Rattle.device.specs.Levels.{buckets_let}
use Rattle.device.proofs.levels.depart.Given as goal

abbrev pub invariant-loop-i : goal.invariant-loop-i
invariant-loop-i l = l.total ≡ buckets_let l.levels l.rates l.admitted l.i
