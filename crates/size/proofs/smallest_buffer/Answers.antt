-- `smallest_buffer` is the search in which a delay limit is kept.
use Rattle.size.specs.Beside.{beside_refusal, greatest_beside, loss_beside, size_beside}
use Rattle.size.proofs.smallest_buffer.Goals as goal

pub returns : goal.returns
unfolding size_beside beside_refusal greatest_beside loss_beside
returns c = c.size_beside.ensures
