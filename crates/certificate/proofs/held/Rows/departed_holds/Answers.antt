-- `departed_holds` compares the sum with the total.
use mathlib.Core.Path.{◌∙◌}
use borrow.Author.Rules.{rules}
use Rattle.certificate.proofs.HeldLinks.{departed-late, departed-sum}
use Rattle.certificate.proofs.held.Rows.departed_holds.Goals as goal

pub returns-then-r-t : goal.returns-then-r-t
returns-then-r-t c = let z = c.args in
    λ table trace u v rows. departed-late table u v z.t z.from (search rules)

pub returns : goal.returns
returns c =
    let z = c.args in
    let r = z.self.now in
    λ table trace u v rows.
    c.makes.ensures
    ∙ departed-sum table u v z.t z.from r.delay r.buffer trace z.slots r.windows.now r.arrived.now r.admitted.now r.departed.now rows
    (search rules) c.requires.0
