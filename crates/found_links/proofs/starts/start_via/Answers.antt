-- `start_via` compares what departs in between with the table's entry.
use mathlib.Core.Path.{sym, ◌∙◌}
use borrow.Author.Tests.{eqb-true, eqb-false}
use Rattle.found_links.proofs.StartRow.{via-start, via_none}
use Rattle.found_links.proofs.starts.start_via.Goals as goal

pub returns-then-makes : goal.returns-then-makes
returns-then-makes c = let z = c.args in
    via-start z.table.now z.departed.now z.starts.now z.t z.k
    (eqb-true _ _ (sym c.makes.ensures ∙ c.if-makes.true))

pub returns-else-makes : goal.returns-else-makes
returns-else-makes c =
    let z = c.args in
    via_none z.table.now z.departed.now z.starts.now z.t z.k (eqb-false _ _ (sym c.makes.ensures ∙ c.if-makes.false))
