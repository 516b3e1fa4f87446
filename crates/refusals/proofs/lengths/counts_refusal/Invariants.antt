-- `counts_refusal` passes on the judgment of the slots that are left.
use Rattle.orders.specs.Answered.{number_given}
use Rattle.refusals.proofs.TraceCounts.{Judged}
use Rattle.refusals.proofs.lengths.counts_refusal.Given as goal

abbrev pub invariant-loop-count : goal.invariant-loop-count
invariant-loop-count l = Judged l.arrivals l.count-index (number_given l.judged)
