-- `broken_slot` tries the slots from 1 on.
use Rattle.std.proofs.Common.{◌≡◌, ◌+◌, ◌-◌, ◌≤◌, length}
use Rattle.rival_calculus.specs.Broken.{first_up_to}
use Rattle.rivals.proofs.TriedRules.{breaks}
use Rattle.rivals.proofs.rules.Totals.broken_slot.Given as goal

abbrev pub invariant-loop-t : goal.invariant-loop-t
invariant-loop-t l =
    (l.t ≤ length l.self.arrivals.now + 1)
    × (first_up_to (breaks l.self.table.now l.self.arrivals.now l.self.admitted.now l.self.departed.now l.self.delay l.self.buffer) (l.t - 1) ≡ 0)
