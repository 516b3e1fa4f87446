-- `least_sum` keeps the least of the sums so far.
use mathlib.Core.Path.{◌≡◌}
use Prim.Native.Nat.{ℕ, ◌+◌}
use lib.ListN.{get_or}
use Rattle.calculus.specs.Numbers.Least.{least as least_in}
use Rattle.square_calculus.specs.Square.{square_entry}
use Rattle.square.proofs.close.least_sum.Given as goal

abbrev pub invariant-loop-r : goal.invariant-loop-r
invariant-loop-r l = (i : ℕ) → i + 1 ≡ l.r → l.least ≡ least_in l.first i (λ k. get_or l.row k 0 + square_entry l.square k l.column)
