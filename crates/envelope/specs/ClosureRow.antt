-- The closure that a row of 65 entries and a last window give, and its first pieces.
use Rattle.std.specs.Prelude.{◌≡◌, ℕ, zero, suc, ◌-◌, List, get_or, set, ltb, eqb}
use Rattle.calculus.specs.Numbers.Lists.{list_of}
use Rattle.calculus.specs.Envelopes.Closure.{closure}
use Rattle.calculus.specs.Envelopes.Piece.{first_piece}
use Rattle.orders.specs.Refusal.{pick}

unfoldable pub closed_by : List ℕ → ℕ → ℕ → ℕ
closed_by table last = closure last (λ k. get_or table k 0)

unfoldable pub piece_by : List ℕ → ℕ → ℕ → ℕ
piece_by table last = first_piece last (λ k. get_or table k 0)

-- a piece that is told is the piece; 0 tells nothing
abbrev pub Told : ℕ → ℕ → Type 0
Told told piece = (told ≡ 0 → ⊥) → told ≡ piece

-- What the least sums tell of the piece, the sum with window 1, the least of those between and f being given: the piece is window 1, or
-- window m, the last, where none between makes f; else it has to be looked for.
unfoldable pub told_by : ℕ → ℕ → ℕ → ℕ → ℕ
told_by first between f m = pick (eqb first f) 1 (pick (ltb f between) m 0)

-- a list with h(0) to h(n-1) at the places before `end`, window 0 last, where it has them
unfoldable pub placed : (ℕ → ℕ) → ℕ → List ℕ → ℕ → List ℕ
placed h end list zero = list
placed h end list (suc n) = set (placed h end list n) (end - suc n) (h n)

-- a row of 129 places, of another's first places turned round, and 0 after them
unfoldable pub turned_row : List ℕ → ℕ → List ℕ
turned_row row count = list_of (λ k. pick (ltb k count) (get_or row (count - suc k) 0) 0) 129
