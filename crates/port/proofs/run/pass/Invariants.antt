-- `pass` lists one stream's arrivals a turn.
use Rattle.port.specs.PortWork.{Passed}
use Rattle.port.proofs.run.pass.Given as goal

abbrev pub invariant-loop-i : goal.invariant-loop-i
invariant-loop-i l =
    Passed l.slots l.t l.i l.input l.initial.sent l.comes l.sent
