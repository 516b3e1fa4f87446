-- `smallest_delay` is the search in which a buffer limit is kept.
use Rattle.size.specs.Beside.{beside_refusal, greatest_beside, loss_beside, size_beside}
use Rattle.size.proofs.smallest_delay.Goals as goal

pub returns : goal.returns
unfolding size_beside beside_refusal greatest_beside loss_beside
returns c = c.size_beside.ensures
