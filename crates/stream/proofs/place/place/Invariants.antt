-- `place` places the bursts from the last to the first: those from burst k on are placed.
use mathlib.Core.Path.{◌≡◌}
use lib.ListN.{length}
use Rattle.stream.specs.PlacedBurst.{arrived_from}
use Rattle.stream.proofs.place.place.Given as goal

abbrev pub invariant-loop-k : goal.invariant-loop-k
invariant-loop-k l = l.arrivals ≡ arrived_from l.file l.k (length l.initial.arrivals)
