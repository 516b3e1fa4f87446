-- Refused calls, put anywhere into a list of calls, change nothing else of it: the state that is left and all other answers are the same.
use mathlib.Core.Path.{◌≡◌, refl, ap}
use mathlib.Core.List.{List, ◌∷◌}
use Prim.Native.Nat.{ℕ, suc}
use Rattle.refusals.specs.Limits.{slot_refusal}
use Rattle.calls.specs.Calls.{Machine, answers, after}
use Rattle.calls.specs.RefusedCalls.{WithRefused, ends, called, refused, others}
use Rattle.calls.proofs.CallRecords.{TakesSlots}

module _ {S : Type 0} (m : Machine S) (takes : TakesSlots m) where
  -- A refused call leaves the state.
  refused_same : (s : S) (n k : ℕ) → slot_refusal n (m.slots s) ≡ suc k → m.next s n ≡ s
  refused_same s n k number = let (answered, same) = takes.refuses s n k number in cc

  pub refused_left : (s : S) (calls more : List ℕ) → WithRefused m s calls more → after m s more ≡ after m s calls
  unfolding after
  refused_left s calls more ends = refl
  refused_left s calls more (called n later) = refused_left _ _ _ later
  refused_left s calls more (refused n k number later) = rw (refused_same s n k number) (refused_left s calls _ later)

  pub refused-others : (s : S) (calls more : List ℕ) (put : WithRefused m s calls more) → others put (answers m s more) ≡ answers m s calls
  unfolding answers others
  refused-others s calls more ends = refl
  refused-others s calls more (called n later) = ap (λ l. m.answer s n ∷ l) (refused-others _ _ _ later)
  refused-others s calls more (refused n k number later) = rw (refused_same s n k number) (refused-others s calls _ later)
