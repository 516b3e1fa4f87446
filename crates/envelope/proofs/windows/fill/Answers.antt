-- `fill` closes the entries that count, over a row that is not too long.
use Rattle.orders.specs.Answered.{refusal_number, verdict_given}
use Rattle.envelope.proofs.Filled.{capped_small, row_refused, row_closed}
use Rattle.envelope.proofs.windows.fill.Goals as goal

pub returns-then-row-gt-ALL_WINDOWS : goal.returns-then-row-gt-ALL_WINDOWS
unfolding verdict_given refusal_number
returns-then-row-gt-ALL_WINDOWS c = let z = c.args in row_refused z.e z.row.now z.pieces.now c.if-row-gt-ALL_WINDOWS.true

pub invariant_of-entries-clause-small : goal.invariant_of-entries-clause-small
invariant_of-entries-clause-small c k = rw c.capped-table.ensures (capped_small c.args.e.table k)

pub returns : goal.returns
unfolding verdict_given
returns c =
    let last = c.last_used in
    let table = c.capped-table in
    let short = c.if-row-gt-ALL_WINDOWS.false in
    let z = c.args in
    let filled = c.close.ensures in
    row_closed z.e z.row.now z.pieces.now short table.result last.result table.ensures last.ensures _ _ filled.0 filled.1
