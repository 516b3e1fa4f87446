-- Refused calls among others (document 01): "a refused slot gives the number and the same regulator", over lists of calls.
use Rattle.std.specs.Prelude.{◌≡◌, List, [], ◌∷◌, ℕ, suc}
use Rattle.refusals.specs.Limits.{slot_refusal}
use Rattle.calls.specs.Calls.{Machine}

-- The list `more` is the list `calls`, on a machine in state s, with calls put anywhere into it that the rules refuse there.
pub data WithRefused {S : Type 0} (m : Machine S) : S → List ℕ → List ℕ → Type 0 where
  ends : {s : S} → WithRefused m s [] []
  called : {s : S} {calls more : List ℕ} (n : ℕ) → WithRefused m (m.next s n) calls more → WithRefused m s (n ∷ calls) (n ∷ more)
  refused : {s : S} {calls more : List ℕ} (n k : ℕ) → slot_refusal n (m.slots s) ≡ suc k → WithRefused m s calls more → WithRefused m s calls (n ∷ more)

-- of a list with an element for each call of `more`, those of the calls that stand in `calls` too
unfoldable pub others : {A S : Type 0} {m : Machine S} {s : S} {calls more : List ℕ} → WithRefused m s calls more → List A → List A
others ends l = []
others (called n later) [] = []
others (called n later) (x ∷ l) = x ∷ others later l
others (refused n k number later) [] = []
others (refused n k number later) (x ∷ l) = others later l
