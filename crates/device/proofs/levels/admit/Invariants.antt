-- `admit` cuts by one bucket after another.
use mathlib.Core.Path.{◌≡◌}
use Rattle.refusals.specs.Limits.{delay_limit}
use Rattle.device.specs.Levels.{buckets_admit}
use Rattle.device.proofs.levels.admit.Given as goal

abbrev pub invariant-loop-i : goal.invariant-loop-i
invariant-loop-i l = l.total ≡ buckets_admit (delay_limit l.delay) l.levels l.rates l.arrived l.i
