-- `list` takes the counts between both totals, slot by slot.
use Rattle.calculus.specs.Numbers.Limit.{delay_limit, buffer_limit}
use Rattle.pencil.proofs.FilledLists.{Listing}
use Rattle.pencil.proofs.run.list.Given as goal

abbrev pub invariant-loop-t : goal.invariant-loop-t
invariant-loop-t l =
    Listing l.work.table.now (delay_limit l.work.delay) (buffer_limit l.work.buffer) l.work.arrivals.now l.t l.x l.y l.admitted l.dropped l.departed
