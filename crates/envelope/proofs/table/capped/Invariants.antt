-- `capped` goes through the entries; those that it has not reached are as they were given.
use mathlib.Core.Path.{◌≡◌}
use Prim.Native.Nat.{ℕ, ◌≤◌, min}
use lib.ListN.{length, get_or, take}
use Rattle.calculus.specs.Numbers.Lists.{list_of}
use Rattle.envelope.proofs.table.capped.Given as goal

abbrev pub invariant-loop-k : goal.invariant-loop-k
invariant-loop-k l =
    (length l.out ≡ 65) × (take l.k l.out ≡ list_of (λ i. min (get_or l.initial.out i 0) 1000000) l.k) × ((i : ℕ) → l.k ≤ i → get_or l.out i 0 ≡ get_or l.initial.out i 0)
