-- `buffer_start` looks at what has departed by the slot before.
use Rattle.std.proofs.Common.{sym, ◌∙◌, rules}
use borrow.Author.Tests.{eqb-true, eqb-false}
use Rattle.calculus.specs.Numbers.Limit.{delay_limit}
use Rattle.found_links.proofs.FirstStarts.{buffer_unlimited, buffer_other, buffer_here}
use Rattle.found_links.proofs.rows.Rows.buffer_start.Goals as goal

pub returns-then-self : goal.returns-then-self
returns-then-self c =
    let z = c.args.self.now in
    let p = c.requires in
    λ f a u v rows.
    buffer_unlimited f a u v z.reach z.admitted z.lost z.departed z.starts z.buffer (delay_limit z.delay) rows c.args.t p.0 p.1 (search rules)

pub returns-then-makes : goal.returns-then-makes
returns-then-makes c =
    let z = c.args.self.now in
    let p = c.requires in
    λ f a u v rows.
    buffer_here f a u v z.reach z.admitted z.lost z.departed z.starts z.buffer (delay_limit z.delay) rows c.args.t p.0 p.1 (search rules)
    (eqb-true _ _ (sym c.makes.ensures ∙ c.if-makes.true))

pub returns-else-makes : goal.returns-else-makes
returns-else-makes c =
    let z = c.args.self.now in
    let p = c.requires in
    λ f a u v rows.
    buffer_other f a u v z.reach z.admitted z.lost z.departed z.starts z.buffer (delay_limit z.delay) rows c.args.t p.0 p.1
    (eqb-false _ _ (sym c.makes.ensures ∙ c.if-makes.false))
