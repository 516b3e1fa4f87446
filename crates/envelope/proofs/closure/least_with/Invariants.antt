use Rattle.std.proofs.Common.{◌≡◌}
use Rattle.numbers.specs.LeastSum.{least_with}
use Rattle.envelope.proofs.closure.least_with.Given as goal

abbrev pub invariant-loop-i : goal.invariant-loop-i
invariant-loop-i l = l.least ≡ least_with l.first l.a l.b l.i
