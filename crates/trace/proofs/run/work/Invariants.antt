-- `work` takes one turn a slot.
use Rattle.refusals.specs.Limits.{delay_limit, buffer_limit}
use Rattle.trace.proofs.RunLoop.{Turning}
use Rattle.trace.proofs.run.work.Given as goal

abbrev pub invariant-loop-t : goal.invariant-loop-t
invariant-loop-t l =
    Turning l.table (delay_limit l.delay) (buffer_limit l.buffer) l.arrivals l.t l.x l.y l.row l.admitted l.dropped l.departed
