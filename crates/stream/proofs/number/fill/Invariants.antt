-- `fill` writes the numbers one after the other: after k turns the first k stand there.
use mathlib.Core.Path.{◌≡◌}
use Prim.Native.Nat.{ℕ, ◌+◌, ◌-◌, ◌≤◌}
use lib.ListN.{length, take}
use Rattle.calculus.specs.Numbers.Lists.{list_of}
use Rattle.stream.specs.Format.{number_at}
use Rattle.stream.proofs.number.fill.Given as goal

abbrev pub invariant-loop-k : goal.invariant-loop-k
invariant-loop-k l = (length l.out ≡ length l.initial.out) × (l.k ≤ length l.initial.out) × (take l.k l.out ≡ list_of (λ (i : ℕ). number_at l.file (l.from + i)) l.k)

abbrev pub decreases-loop-k : goal.decreases-loop-k
decreases-loop-k l = length l.initial.out - l.k
