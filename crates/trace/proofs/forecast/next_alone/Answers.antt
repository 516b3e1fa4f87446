-- `next_alone` takes the least once for both forecasts.
use native.Mathlib.Omega.{arith}
use Prim.Native.Nat.{◌+◌}
use lib.ListN.{length-drop}
use lib.Seq.{get_or-drop}
use Rattle.numbers.proofs.LeastSum.{drop_whole}
use Rattle.trace.proofs.NewestLast.{newest-last}
use Rattle.trace.proofs.forecast.next_alone.Goals as goal

pub least_sum-least-requires : goal.least_sum-least-requires
least_sum-least-requires c =
    let z = c.args in
    let pre = c.requires in
    rw (drop_whole 2 z.windows.now) (
      omega arith,
      omega (arith, length-drop 2 z.windows.now),
      λ i p. omega (arith, pre.5 i, get_or-drop 2 z.windows.now i 0, pre.6 (2 + i)),
    )

pub returns : goal.returns
returns c =
    let z = c.args in
    let e = newest-last z.windows.now z.older.now z.last z.newest 0 c.least_sum-least.result c.min-soon.result
    (omega (arith, c.requires.6 1)) c.least_sum-least.ensures c.min-soon.ensures in
    (e, e)
