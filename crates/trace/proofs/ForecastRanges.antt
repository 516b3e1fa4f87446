-- What a forecast reads is in range, and no sum of it leaves 32 bits.
use mathlib.Core.Path.{◌≡◌}
use mathlib.Core.List.{List}
use Prim.Native.Nat.{ℕ, ◌+◌, ◌-◌, ◌≤◌, ◌<◌}
use native.Mathlib.Omega.{arith}
use mir.Syntax.{w32}
use mir.Val.{Fits}
use lib.ListN.{length, get_or, take, drop, length-drop}
use lib.Seq.{get_or-drop}
use Rattle.numbers.proofs.LeastSum.{drop_whole}

-- No sum of a total with a window leaves 32 bits.
pub sum_fits : (total window : ℕ) → total ≤ 4096000000 → window ≤ 128000000 → Fits w32 (total + window)
sum_fits total window p q = omega arith

pub sum_small : (total window : ℕ) → total ≤ 4096000000 → window ≤ 128000000 → total + window ≤ 4294967295
sum_small total window p q = omega arith

-- What the least sums ask of the older totals and the windows from one place on.
module _ (older windows : List ℕ) (last from : ℕ) (pos : 1 ≤ last) (few : last ≤ 64) (near : from ≤ 66) (long : length windows ≡ 129)
    (low : (k : ℕ) → get_or older k 0 ≤ 4096000000) (small : (k : ℕ) → get_or windows k 0 ≤ 128000000) where
  pub sums_within : last - 1 ≤ length (take (length windows - from) (drop from windows))
  sums_within = rw (drop_whole from windows) (omega (arith, length-drop from windows))

  pub sums_fit : (i : ℕ) → i < last - 1 → get_or older i 0 + get_or (take (length windows - from) (drop from windows)) i 0 < 4294967296
  sums_fit i p = rw (drop_whole from windows) (omega (arith, low i, get_or-drop from windows i 0, small (from + i)))
