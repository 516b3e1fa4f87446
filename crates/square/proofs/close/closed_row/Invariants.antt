-- `closed_row` works a row from the diagonal on, by lemma 2.1 (iv).
use mathlib.Core.Path.{◌≡◌}
use Prim.Native.Nat.{ℕ, ◌+◌}
use Rattle.square.proofs.ClosedPlaces.{ClosedTo}
use Rattle.square.proofs.close.closed_row.Given as goal

abbrev pub invariant-loop-t : goal.invariant-loop-t
invariant-loop-t l = (i : ℕ) → i + 1 ≡ l.t → ClosedTo l.square l.s i l.row
