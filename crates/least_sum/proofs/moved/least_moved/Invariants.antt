-- `least_moved` sums and moves one by one what does not fill a turn, and then four places a turn.
use Rattle.std.proofs.Common.{◌≡◌, ◌-◌, ◌%◌, ◌≤◌, min, length}
use Rattle.numbers.specs.LeastSum.{least_sum}
use Rattle.least_sum.specs.Pushed.{Moving}
use Rattle.least_sum.proofs.moved.least_moved.Given as goal

abbrev pub invariant-loop-i : goal.invariant-loop-i
invariant-loop-i l =
    (l.n ≡ min l.count (min (length l.fn.row) (length l.b))) × (l.least ≡ least_sum l.fn.row l.b l.i) × Moving l.fn.row l.i l.row l.before

abbrev pub invariant-loop-i-2 : goal.invariant-loop-i-2
invariant-loop-i-2 l =
    (l.i ≤ l.n) × ((l.n - l.i) % 4 ≡ 0) × (l.n ≡ min l.count (min (length l.fn.row) (length l.b)))
    × (l.least ≡ least_sum l.fn.row l.b l.i) × Moving l.fn.row l.i l.row l.before

abbrev pub decreases-loop-i-2 : goal.decreases-loop-i-2
decreases-loop-i-2 l = l.n - l.i
