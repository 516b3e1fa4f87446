-- `least_sum` takes four sums a turn, and then what is left one by one.
use Rattle.std.proofs.Common.{◌≡◌, ◌+◌, ◌-◌, ◌%◌, ◌≤◌, min, length}
use Rattle.numbers.specs.LeastSum.{least_sum}
use Rattle.least_sum.proofs.least.least_sum.Given as goal

abbrev pub invariant-loop-i : goal.invariant-loop-i
invariant-loop-i l =
    (l.i ≤ l.whole) × (l.i % 4 ≡ 0) × (l.whole ≡ l.n - l.n % 4) × (l.n ≡ min l.count (min (length l.a) (length l.b))) × (l.least ≡ least_sum l.a l.b l.i)

abbrev pub decreases-loop-i : goal.decreases-loop-i
decreases-loop-i l = l.whole - l.i

abbrev pub invariant-loop-rest : goal.invariant-loop-rest
invariant-loop-rest l = (l.n ≡ min l.count (min (length l.a) (length l.b))) × (l.least ≡ least_sum l.a l.b (l.whole + l.rest))
