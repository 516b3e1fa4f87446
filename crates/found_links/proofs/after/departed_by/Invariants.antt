-- `departed_by` takes the lesser of the least so far and the next window's sum.
use Rattle.std.proofs.Common.{◌≡◌, ◌+◌, ◌-◌, ◌≤◌}
use Rattle.found_links.specs.FoundRows.{departed_within}
use Rattle.found_links.proofs.after.departed_by.Given as goal

abbrev pub invariant-loop-k : goal.invariant-loop-k
invariant-loop-k l = (l.k ≤ l.reach + 1) × (l.least ≡ departed_within l.table l.departed l.total l.t (l.k - 1))
