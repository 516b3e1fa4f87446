-- `counts_refusal` passes on the judgment of the slots that are left.
use Rattle.std.proofs.Common.{refl, inl, rules}
use Rattle.orders.specs.Answered.{number_given, refusal_number}
use Rattle.refusals.proofs.TraceCounts.{judged_large, judged_fine, judged_done}
use Rattle.refusals.proofs.lengths.counts_refusal.Goals as goal

pub loop-count-init : goal.loop-count-init
unfolding number_given
loop-count-init c = inl (refl, refl)

pub loop-count-preserved : goal.loop-count-preserved
unfolding number_given refusal_number
loop-count-preserved c =
    let l = c.loop-count in
    let more = c.loop-count-test.true in
    let trace = c.args.arrivals.now in
    elim c.if-count-gt-MOST_PACKETS_32.branch [
      | goal.then-count-gt-MOST_PACKETS_32 w ↦ rw w.judged-is (judged_large trace l.count-index (number_given l.judged) more w.if-count-gt-MOST_PACKETS_32.true l.invariant)
      | goal.else-count-gt-MOST_PACKETS_32 w ↦ rw w.judged-is (judged_fine trace l.count-index (number_given l.judged) more (search rules) l.invariant)
    ]

pub returns : goal.returns
returns c = judged_done c.args.arrivals.now c.loop-count.count-index (number_given c.loop-count.judged) c.loop-count-test.false c.loop-count.invariant
