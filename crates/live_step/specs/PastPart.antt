-- The past as a list of its own: the first places of the row of totals taken out, and put in again.
use Rattle.std.specs.Prelude.{◌≡◌, ℕ, ◌≤◌, ◌<◌, length, get_or, List}

-- a list of `count` places that are those of a row
pub record SamePlaces (count : ℕ) (part row : List ℕ) : Type 0 where
  pub long : length part ≡ count
  pub within : count ≤ length row
  pub same : (k : ℕ) → k < count → get_or part k 0 ≡ get_or row k 0

-- a row after its first `count` places are put in from a list
pub record PutPlaces (count : ℕ) (part before after : List ℕ) : Type 0 where
  pub long : length after ≡ length before
  pub put : (k : ℕ) → k < count → get_or after k 0 ≡ get_or part k 0
  pub kept : (k : ℕ) → count ≤ k → get_or after k 0 ≡ get_or before k 0
