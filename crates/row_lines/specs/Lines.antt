-- The lines of the programs of rows: words, and numbers after them, in base ten with a single space before each.
use Rattle.std.specs.Prelude.{◌≡◌, List, [], ◌∷◌, ◌++◌, ℕ, ◌≤◌, length, take}
use Rattle.text.specs.Digits.{digits}
use Rattle.text.specs.Put.{Put}

-- numbers, each after a space
unfoldable pub spaced : List ℕ → List ℕ
spaced [] = []
spaced (n ∷ later) = 32 ∷ (digits n ++ spaced later)

-- a word and the numbers after it
unfoldable pub labelled : List ℕ → List ℕ → List ℕ
labelled word numbers = word ++ spaced numbers

-- A line feed is put, and the size of the line is answered. The last two follow from the first: they are what `&room[..size]` asks.
pub record Ended (before : List ℕ) (at : ℕ) (after : List ℕ) (size : ℕ) : Type 0 where
  pub fed : Put before at (10 ∷ []) after size
  pub inside : size ≤ length after
  pub counted : size ≡ length (take size after)
