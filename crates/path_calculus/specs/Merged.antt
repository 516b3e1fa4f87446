-- One table out of several: at each window the least entry of the tables that reach it.
use Rattle.std.specs.Prelude.{List, [], ◌∷◌, ℕ, min}

-- of two tables: the smaller entry where both have one
unfoldable pub merge : List ℕ → List ℕ → List ℕ
merge [] ys = ys
merge (x ∷ xs) [] = x ∷ xs
merge (x ∷ xs) (y ∷ ys) = min x y ∷ merge xs ys

-- of any number of tables
unfoldable pub merged : List (List ℕ) → List ℕ
merged [] = []
merged (table ∷ tables) = merge table (merged tables)
