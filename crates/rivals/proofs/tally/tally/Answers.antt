-- `tally` adds the counts up, slot by slot, each sum within 64 bits.
use Rattle.std.proofs.Common.{arith, rules}
use Rattle.rivals.proofs.RunningTotals.{tallying-first, tallying_next, tallying-last}
use Rattle.rivals.proofs.tally.tally.Goals as goal

pub loop-t-init : goal.loop-t-init
loop-t-init c = tallying-first c.args.counts.now c.args.totals.now (search rules) c.requires.1

pub loop-t-preserved : goal.loop-t-preserved
loop-t-preserved c =
    let l = c.loop-t in
    tallying_next c.args.counts.now l.totals l.t l.sum c.from-sum.result l.invariant (search rules) c.requires.0 c.from-sum.ensures
    (omega (arith, c.from-sum.ensures, c.type_inv.counts l.t))

pub returns : goal.returns
returns c =
    let l = c.loop-t in
    tallying-last c.args.counts.now l.totals l.t l.sum l.invariant (search rules) c.requires.0
