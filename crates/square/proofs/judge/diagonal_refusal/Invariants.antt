-- `diagonal_refusal` goes from row 0 on as long as nothing is refused.
use mathlib.Core.Path.{◌≡◌}
use Prim.Native.Nat.{suc}
use Rattle.square_calculus.specs.Square.{square_entry}
use Rattle.square.specs.Refusals.{first_of, below_diagonal_refusal}
use Rattle.square.proofs.judge.diagonal_refusal.Given as goal

abbrev pub invariant-loop-s : goal.invariant-loop-s
invariant-loop-s l = first_of (λ s. first_of (λ t. below_diagonal_refusal (square_entry l.square s t)) (suc s)) l.s ≡ 0
