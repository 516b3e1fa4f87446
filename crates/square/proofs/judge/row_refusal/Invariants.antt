-- `row_refusal` goes along the row as long as nothing is refused.
use mathlib.Core.Path.{◌≡◌}
use Prim.Native.Nat.{suc}
use lib.ListN.{get_or}
use Rattle.square.specs.Refusals.{first_of, entry_refusal}
use Rattle.square.proofs.judge.row_refusal.Given as goal

abbrev pub invariant-loop-t : goal.invariant-loop-t
invariant-loop-t l = first_of (λ t. entry_refusal (get_or l.row t 0) (get_or l.row (suc t) 0)) l.t ≡ 0
