-- `zeros_refusal` goes from slot 0 on as long as nothing is refused.
use mathlib.Core.Path.{◌≡◌}
use lib.ListN.{get_or}
use Rattle.square.specs.Refusals.{first_of, below_diagonal_refusal}
use Rattle.square.proofs.judge.zeros_refusal.Given as goal

abbrev pub invariant-loop-entry : goal.invariant-loop-entry
invariant-loop-entry l = first_of (λ t. below_diagonal_refusal (get_or l.row t 0)) l.entry-index ≡ 0
