-- `admitted_link` takes the first of the earliest of each mark.
use Rattle.calculus.specs.Numbers.Limit.{delay_limit, buffer_limit}
use Rattle.found_links.proofs.rows.Rows.admitted_link.Goals as goal

pub returns-clause-found : goal.returns-clause-found
returns-clause-found c =
    let z = c.args.self.now in
    λ f a u v rows arrivals.
    c.first_of.ensures.found f a u (delay_limit z.delay) (buffer_limit z.buffer) z.reach arrivals (c.delay_start.ensures f a u v rows)
    (c.buffer_start.ensures f a u v rows)
