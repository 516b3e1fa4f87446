-- `raise` raises one level after another.
use Rattle.device.proofs.BucketLevels.{Raised}
use Rattle.device.proofs.levels.raise.Given as goal

abbrev pub invariant-loop-i : goal.invariant-loop-i
invariant-loop-i l = Raised l.initial.levels l.rates l.bursts l.admitted l.i l.levels
