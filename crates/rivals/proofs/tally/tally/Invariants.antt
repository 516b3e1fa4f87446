-- `tally` adds the counts up, slot by slot, each sum within 64 bits.
use Rattle.rivals.proofs.RunningTotals.{Tallying}
use Rattle.rivals.proofs.tally.tally.Given as goal

abbrev pub invariant-loop-t : goal.invariant-loop-t
invariant-loop-t l = Tallying l.counts l.totals l.t l.sum
