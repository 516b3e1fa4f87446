-- `put_newest` puts the total first, if there is a place for it.
use borrow.Author.Rules.{rules}
use Rattle.least_sum.proofs.Pushed.{put_nowhere, put_first}
use Rattle.regulator.proofs.step.put_newest.Goals as goal

pub returns-then-last-eq0 : goal.returns-then-last-eq0
returns-then-last-eq0 c =
    let z = c.args in
    put_nowhere z.last z.departed z.row.now (search rules)

pub returns : goal.returns
returns c =
    let z = c.args in
    put_first z.last z.departed z.row.now (search rules)
