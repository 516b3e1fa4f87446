-- A text written into a list from a place on, as far as the list goes: the promise of every function that writes a part of a text.
use Rattle.std.specs.Prelude.{◌≡◌, List, [], ◌∷◌, ℕ, suc, ◌+◌, min, length, set}

-- the list with a text stored byte by byte from a place on; a byte after the list's end is left out
unfoldable pub stored : List ℕ → ℕ → List ℕ → List ℕ
stored before at [] = before
stored before at (byte ∷ later) = stored (set before at byte) (suc at) later

-- The text is stored at a place, and the place after it is answered, or the list's end where that comes first.
pub record Put (before : List ℕ) (at : ℕ) (text after : List ℕ) (r : ℕ) : Type 0 where
  pub next : r ≡ min (at + length text) (length before)
  pub written : after ≡ stored before at text
