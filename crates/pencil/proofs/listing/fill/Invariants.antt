-- `fill` works trace after trace, each from its last slot back.
use Rattle.std.proofs.Common.{◌*◌}
use Rattle.pencil.proofs.FilledListing.{Filling, FillingTrace}
use Rattle.pencil.proofs.listing.fill.Given as goal

abbrev pub invariant-loop-j : goal.invariant-loop-j
invariant-loop-j l = FillingTrace l.slots l.list l.k l.j l.rest

abbrev pub invariant-loop-k : goal.invariant-loop-k
invariant-loop-k l = Filling l.slots l.list (l.k * l.slots)
