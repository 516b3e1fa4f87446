-- `four_moved` moves its places one after another.
use Rattle.std.proofs.Common.{◌+◌, set, refl, ap, arith}
use Rattle.least_sum.proofs.Pushed.{moving_long, moving_more}
use Rattle.least_sum.proofs.moved.four_moved.Goals as goal

pub returns : goal.returns
returns c =
    let i = c.args.i in
    let second = c.replace-second.ensures in
    let third = c.replace-third.ensures in
    let fourth = c.replace-fourth.ensures in
    let last = c.replace.ensures in
    λ given moving.
    let long = moving_long given i c.args.row.now c.args.before moving in
    let one = moving_more given i _ _ moving (i + 1) _ _ refl (omega arith) second.value (ap (set _ i) second.after) in
    let two = moving_more given (i + 1) _ _ one (i + 2) _ _ (omega arith) (omega arith) third.value (ap (set _ (i + 1)) third.after) in
    let three = moving_more given (i + 2) _ _ two (i + 3) _ _ (omega arith) (omega arith) fourth.value (ap (set _ (i + 2)) fourth.after) in
    moving_more given (i + 3) _ _ three (i + 4) _ _ (omega arith) (omega arith) last.value (ap (set _ (i + 3)) last.after)
