-- `total_row` adds one count a turn.
use Rattle.std.proofs.Common.{◌≡◌, min, length, refl, arith, length-set, rules}
use Rattle.chain.specs.Rows.{total_at}
use Rattle.chain.proofs.FilledRows.{summed-first, total_next, summed_next, summed_whole, summed_over_lem}
use Rattle.chain.proofs.rows.total_row.Goals as goal

pub loop-t-init : goal.loop-t-init
unfolding total_at
loop-t-init c = (search (rules, length-set), refl, summed-first c.args.counts.now c.args.totals.now (search rules))

pub loop-t-preserved : goal.loop-t-preserved
loop-t-preserved c =
    let z = c.args in
    let l = c.loop-t in
    let made = total_next z.counts.now l.t l.sum _ l.invariant.1 refl in
    (simp length-set l.invariant.0, made, summed_next z.counts.now _ l.totals l.t _ l.invariant.2 (omega arith) made)

pub returns : goal.returns
returns c =
    let z = c.args in
    let l = c.loop-t in
    let e : l.t ≡ min (length z.counts.now) 4160 = omega arith in
    summed_over_lem z.counts.now z.totals.now _ l.invariant.0 (summed_whole z.counts.now z.totals.now _ _ 0 (rw e at l.invariant.2))
