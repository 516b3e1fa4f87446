-- The first piece of f at a window: how f was made up (document 02, request 2.4).
use Rattle.std.specs.Prelude.{ℕ, zero, suc, ◌+◌, ◌-◌, min, List, [], ◌∷◌, length, get_or, eqb}
use Rattle.calculus.specs.Numbers.FirstWhere.{first_where}
use Rattle.calculus.specs.Envelopes.Closure.{closure}

-- For window 0 the piece is 0, else it is the smallest k from 1 to L, not above the window, for which the entry at k plus f at the
-- remaining window is f.
unfoldable pub piece_of : ℕ → (ℕ → ℕ) → (ℕ → ℕ) → ℕ → ℕ
piece_of L entry f zero = 0
piece_of L entry f (suc n) = first_where 1 (min L (suc n)) (λ k. eqb (entry k + f (suc n - k)) (f (suc n)))

-- over the given table and its closure
unfoldable pub first_piece : ℕ → (ℕ → ℕ) → ℕ → ℕ
first_piece L table = piece_of L table (closure L table)

-- the same, for a table given as the list of its L+1 entries
unfoldable pub table_piece : List ℕ → ℕ → ℕ
table_piece table = first_piece (length table - 1) (λ k. get_or table k 0)

-- The pieces, each the first of the window that remains after those before it; a window of n slots has n at most.
unfoldable pub pieces_within : ℕ → ℕ → (ℕ → ℕ) → ℕ → List ℕ
pieces_within zero L table n = []
pieces_within (suc steps) L table zero = []
pieces_within (suc steps) L table (suc n) =
    first_piece L table (suc n) ∷ pieces_within steps L table (suc n - first_piece L table (suc n))

unfoldable pub pieces : ℕ → (ℕ → ℕ) → ℕ → List ℕ
pieces L table n = pieces_within n L table n
