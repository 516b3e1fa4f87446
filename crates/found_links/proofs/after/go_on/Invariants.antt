-- `go_on` works one slot a turn.
use Rattle.found_links.proofs.AfterTrace.{Going}
use Rattle.found_links.proofs.after.go_on.Given as goal

abbrev pub invariant-loop-t : goal.invariant-loop-t
invariant-loop-t l =
    Going l.table l.slots l.initial.admitted l.initial.lost l.initial.departed l.admitted l.lost l.departed l.t
