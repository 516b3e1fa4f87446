-- The number of what a slot lacks, by its two tests: 6 where the first fails, else 7 where the second does, else 0.
use mathlib.Core.Bool.{Bool, cond}
use Prim.Native.Nat.{ℕ}

abbrev pub lack_by : Bool → Bool → ℕ
lack_by b c = cond b (cond c 0 7) 6
