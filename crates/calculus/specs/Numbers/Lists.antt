-- A function's values at the indices below n, as a list: from 0 on, and from the newest back.
use Rattle.std.specs.Prelude.{ℕ, zero, suc, List, [], ◌∷◌, ◌++◌}

-- h(0), h(1), .., h(n-1)
unfoldable pub list_of : (ℕ → ℕ) → ℕ → List ℕ
list_of h zero = []
list_of h (suc n) = list_of h n ++ (h n ∷ [])

-- h(n-1), .., h(1), h(0)
unfoldable pub newest_first : (ℕ → ℕ) → ℕ → List ℕ
newest_first h zero = []
newest_first h (suc n) = h n ∷ newest_first h n
