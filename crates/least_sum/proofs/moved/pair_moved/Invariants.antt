-- `pair_moved` does what `least_moved` does, with two sums a place.
use Rattle.std.proofs.Common.{◌≡◌, ◌-◌, ◌%◌, ◌≤◌, min, length}
use Rattle.numbers.specs.LeastSum.{least_sum}
use Rattle.least_sum.specs.Pushed.{Moving}
use Rattle.least_sum.proofs.moved.pair_moved.Given as goal

abbrev pub invariant-loop-i : goal.invariant-loop-i
invariant-loop-i l =
    (l.n ≡ min (min l.count (length l.fn.row)) (min (length l.b) (length l.c)))
    × (l.first ≡ least_sum l.fn.row l.b l.i) × (l.second ≡ least_sum l.fn.row l.c l.i) × Moving l.fn.row l.i l.row l.before

abbrev pub invariant-loop-i-2 : goal.invariant-loop-i-2
invariant-loop-i-2 l =
    (l.i ≤ l.n) × ((l.n - l.i) % 4 ≡ 0) × (l.n ≡ min (min l.count (length l.fn.row)) (min (length l.b) (length l.c)))
    × (l.first ≡ least_sum l.fn.row l.b l.i) × (l.second ≡ least_sum l.fn.row l.c l.i) × Moving l.fn.row l.i l.row l.before

abbrev pub decreases-loop-i-2 : goal.decreases-loop-i-2
decreases-loop-i-2 l = l.n - l.i
