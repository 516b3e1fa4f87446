-- `forecast` takes both leasts at once.
use Prim.Native.Nat.{ℕ, ◌+◌, ◌-◌, ◌≤◌}
use native.Mathlib.Omega.{arith}
use lib.ListN.{length, get_or}
use Rattle.trace.proofs.NewestLast.{newest-last}
use Rattle.trace.proofs.ForecastRanges.{sum_small, sums_within, sums_fit}
use Rattle.trace.proofs.forecast.forecast.Goals as goal

fewer : (last many : ℕ) → last ≤ 64 → 63 ≤ many → last - 1 ≤ many
fewer last many few enough = omega arith

near : (ahead : ℕ) → ahead ≤ 64 → ahead + 2 ≤ 66
near ahead few = omega arith

pub next_alone-requires : goal.next_alone-requires
next_alone-requires c = let pre = c.requires in (pre.0, pre.1, pre.3, pre.4, pre.5, pre.6, pre.7)

pub returns-then-ahead-eq0 : goal.returns-then-ahead-eq0
returns-then-ahead-eq0 c = rw c.if-ahead-eq0.true c.next_alone.ensures

pub least_sums-least-requires : goal.least_sums-least-requires
least_sums-least-requires c =
    let z = c.args in
    let pre = c.requires in
    let two : 2 ≤ 66 = near 0 (omega arith) in
    let far = near z.ahead pre.2 in (
      fewer z.last (length z.older.now) pre.1 pre.3,
      sums_within z.older.now z.windows.now z.last 2 pre.0 pre.1 two pre.4 pre.6 pre.7,
      sums_within z.older.now z.windows.now z.last (z.ahead + 2) pre.0 pre.1 far pre.4 pre.6 pre.7,
      sums_fit z.older.now z.windows.now z.last 2 pre.0 pre.1 two pre.4 pre.6 pre.7,
      sums_fit z.older.now z.windows.now z.last (z.ahead + 2) pre.0 pre.1 far pre.4 pre.6 pre.7,
    )

pub returns : goal.returns
returns c =
    let sums = c.least_sums-least in
    let z = c.args in
    let small : (k : ℕ) → z.newest + get_or z.windows.now k 0 ≤ 4294967295 =
    λ k. sum_small z.newest (get_or z.windows.now k 0) c.requires.5 (c.requires.7 k) in (
      newest-last z.windows.now z.older.now z.last z.newest 0 sums.result.soon c.min.result
          (small 1) sums.ensures.0 c.min.ensures,
      newest-last z.windows.now z.older.now z.last z.newest z.ahead sums.result.late c.min-2.result
          (small (z.ahead + 1)) sums.ensures.1 c.min-2.ensures,
    )
