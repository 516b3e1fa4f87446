-- `start_row` works one slot a turn.
use Rattle.std.proofs.Common.{◌≡◌, ◌+◌, ◌-◌, ◌≤◌, length}
use Rattle.found_links.specs.FoundRows.{StartsTo}
use Rattle.found_links.proofs.starts.start_row.Given as goal

abbrev pub invariant-loop-t : goal.invariant-loop-t
invariant-loop-t l = (l.t ≤ l.slots + 1) × (length l.starts ≡ 4161) × StartsTo l.table l.departed l.slots l.starts (l.t - 1)
