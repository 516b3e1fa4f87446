-- `start_to` takes the earlier of the earliest so far and the next window's.
use Rattle.std.proofs.Common.{◌≡◌, ◌+◌, ◌-◌, ◌≤◌}
use Rattle.found_links.specs.FoundRows.{start_within}
use Rattle.found_links.proofs.starts.start_to.Given as goal

abbrev pub invariant-loop-k : goal.invariant-loop-k
invariant-loop-k l = (l.k ≤ l.reach + 1) × (l.first ≡ start_within l.table l.departed l.starts l.t (l.k - 1))
