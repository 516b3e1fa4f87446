-- `same_loss` compares two losses.
use borrow.Author.Rules.{rules}
use lib.ListN.{get_or}
use Rattle.found_links.proofs.SameLoss.{loss_same, loss_other}
use Rattle.found_links.proofs.certify.same_loss.Goals as goal

pub returns-then-lost-same : goal.returns-then-lost-same
returns-then-lost-same c = let z = c.args in
    loss_same (get_or z.lost.now z.same 0) (get_or z.lost.now z.t 0) z.same z.t (search rules)

pub returns-else-lost-same : goal.returns-else-lost-same
returns-else-lost-same c =
    let z = c.args in
    loss_other (get_or z.lost.now z.same 0) (get_or z.lost.now z.t 0) z.same z.t (search rules)
