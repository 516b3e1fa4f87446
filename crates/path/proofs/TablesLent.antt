-- Which lent table is which stage: the i-th of a path's tables is the i-th lent, for i below the number of stages.
use mathlib.Core.Path.{◌≡◌}
use mathlib.Core.List.{List, [], ◌∷◌}
use Prim.Native.Nat.{ℕ, ◌≤◌, ◌<◌}
use native.Mathlib.Omega.{arith}
use lib.ListN.{get_or}
use lib.Seq.{get_or-take}
use Rattle.path.specs.Refusals.{tables_of}

module _ (stages : ℕ) (first second third fourth : List ℕ) where
  -- Of the four lent tables those below the number of stages are there, each in its place ..
  pub tables_lent : (i : ℕ) → i < stages → get_or (tables_of stages first second third fourth) i [] ≡ get_or (first ∷ second ∷ third ∷ fourth ∷ []) i []
  unfolding tables_of
  tables_lent i p = get_or-take stages (first ∷ second ∷ third ∷ fourth ∷ []) i [] p

  -- .. so stage 0 has the first, stage 1 the second, stage 2 the third and stage 3 the fourth.
  pub stages_lent : (1 ≤ stages → get_or (tables_of stages first second third fourth) 0 [] ≡ first)
      × (2 ≤ stages → get_or (tables_of stages first second third fourth) 1 [] ≡ second)
      × (3 ≤ stages → get_or (tables_of stages first second third fourth) 2 [] ≡ third)
      × (4 ≤ stages → get_or (tables_of stages first second third fourth) 3 [] ≡ fourth)
  stages_lent = (λ p. tables_lent 0 (omega arith), λ p. tables_lent 1 (omega arith), λ p. tables_lent 2 (omega arith), λ p. tables_lent 3 (omega arith))
