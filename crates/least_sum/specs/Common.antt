-- How many of the first places rows have in common.
use Rattle.std.specs.Prelude.{ℕ, min, List, length}

-- of the first `count` places, those that two rows have
abbrev pub common : ℕ → List ℕ → List ℕ → ℕ
common count a b = min count (min (length a) (length b))

-- and those that three have
abbrev pub common_to_three : ℕ → List ℕ → List ℕ → List ℕ → ℕ
common_to_three count a b c = min (min count (length a)) (min (length b) (length c))
