-- `broken_window` tries the windows from 1 on.
use Rattle.std.proofs.Common.{◌≡◌, ◌+◌, ◌-◌, ◌≤◌, get_or}
use Rattle.rival_calculus.specs.Broken.{first_up_to, over_window}
use Rattle.rivals.proofs.rules.Totals.broken_window.Given as goal

abbrev pub invariant-loop-k : goal.invariant-loop-k
invariant-loop-k l = (l.k ≤ l.last + 1) × (first_up_to (over_window l.self.table.now (λ i. get_or l.self.departed.now i 0) l.t) (l.k - 1) ≡ 0)
