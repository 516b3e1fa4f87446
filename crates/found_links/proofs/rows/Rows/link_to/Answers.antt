-- `link_to` looks for the earliest slot with the same loss, and takes the first of the three marks' links.
use Rattle.found_links.proofs.rows.Rows.link_to.Goals as goal

pub returns-clause-found : goal.returns-clause-found
returns-clause-found c =
    λ f a u v rows some.
    c.admitted_link.ensures.found f a u v rows (c.loss_start.ensures.earliest f a u v rows c.requires.0)
