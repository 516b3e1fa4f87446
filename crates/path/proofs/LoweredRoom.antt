-- A table lowers the places of the room that it reaches, one after another.
use mathlib.Core.Path.{◌≡◌}
use mathlib.Core.List.{List}
use Prim.Native.Nat.{ℕ, ◌≤◌, ◌<◌, min}
use lib.ListN.{length, get_or}
use Rattle.path.specs.PathWork.{no_entry}

-- the room after the table's first k entries
pub record Lowering (table room₀ room : List ℕ) (k : ℕ) : Type 0 where
  pub within : k ≤ length table
  pub long : length room ≡ length room₀
  pub done : (j : ℕ) → j < k → get_or room j 0 ≡ min (get_or table j no_entry) (get_or room₀ j 0)
  pub ahead : (j : ℕ) → k ≤ j → get_or room j 0 ≡ get_or room₀ j 0
