-- `rows_refusal` goes from row 0 on as long as nothing is refused.
use mathlib.Core.Path.{◌≡◌}
use Prim.Native.Nat.{suc}
use Rattle.square_calculus.specs.Square.{square_entry}
use Rattle.square.specs.Refusals.{first_of, entry_refusal}
use Rattle.square.proofs.judge.rows_refusal.Given as goal

abbrev pub invariant-loop-row : goal.invariant-loop-row
invariant-loop-row l = first_of (λ s. first_of (λ t. entry_refusal (square_entry l.square s t) (square_entry l.square s (suc t))) 32) l.row-index ≡ 0
