-- `work` takes one turn a slot.
use Rattle.calculus.specs.Numbers.Limit.{delay_limit, buffer_limit}
use Rattle.square.proofs.RunLoop.{Turn}
use Rattle.square.proofs.run.work.Given as goal

abbrev pub invariant-loop-t : goal.invariant-loop-t
invariant-loop-t l =
    Turn l.bounds (delay_limit l.delay) (buffer_limit l.buffer) l.arrivals l.t l.x l.y l.totals l.admitted l.dropped l.departed
