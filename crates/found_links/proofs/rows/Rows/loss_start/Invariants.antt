-- `loss_start` walks back while the loss is the same.
use Rattle.std.proofs.Common.{◌≡◌, get_or}
use Rattle.found_links.proofs.rows.Rows.loss_start.Given as goal

abbrev pub invariant-loop-s : goal.invariant-loop-s
invariant-loop-s l = get_or l.self.lost l.s 0 ≡ get_or l.self.lost l.t 0
