-- Numbers that are each worked from those before: a rule says how, given the numbers found so far.
use Rattle.std.specs.Prelude.{ℕ, zero, suc, List, [], ◌∷◌, ◌++◌, get_or}

-- a rule: from the numbers so far and an index, the number at that index
abbrev pub Rule : Type 0
Rule = (ℕ → ℕ) → ℕ → ℕ

-- the numbers at the indices below n
unfoldable pub course_below : Rule → ℕ → List ℕ
course_below rule zero = []
course_below rule (suc n) = course_below rule n ++ (rule (λ k. get_or (course_below rule n) k 0) n ∷ [])

-- the number at n
unfoldable pub course : Rule → ℕ → ℕ
course rule n = rule (λ k. get_or (course_below rule n) k 0) n
