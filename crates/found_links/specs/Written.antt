-- Lists that are written at their first places alone.
use Rattle.std.specs.Prelude.{List, ◌++◌, ℕ, length, drop}

-- a lent list of which the first places are written and the rest is untouched
unfoldable pub written : List ℕ → List ℕ → List ℕ
written places before = places ++ drop (length places) before
