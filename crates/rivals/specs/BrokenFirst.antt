-- What it is for a judgement to name what anyone's totals break first.
use Rattle.std.specs.Prelude.{◌≡◌, List, ℕ, ◌≤◌, ◌<◌}
use Rattle.calculus.specs.Numbers.Limit.{Limit}
use Rattle.rival_calculus.specs.Breaks.{BreaksWindow, Breaks}
use Rattle.rivals.specs.declared.judge.Judgement.{Judgement}

-- A judgement names what is broken first, in the slots 1 to T.
pub record BrokenFirst (table : List ℕ) (d q : Limit) (a : ℕ → ℕ) (T : ℕ) (u v : ℕ → ℕ) (j : Judgement) : Type 0 where
  pub within : (1 ≤ j.slot) × (j.slot ≤ T)
  -- the rule is broken in the slot
  pub broken : Breaks table d q a u v j.slot j.rule
  -- no rule is in an earlier slot, and no lower rule in that slot
  pub none_before : (s r : ℕ) → 1 ≤ s → s < j.slot → Breaks table d q a u v s r → ⊥
  pub none_lower : (r : ℕ) → r < j.rule → Breaks table d q a u v j.slot r → ⊥
  -- for rule 3 the window is broken, and no smaller one; for any other it is 0
  pub windowed : j.rule ≡ 3 → BreaksWindow table v j.slot j.window
  pub smallest : j.rule ≡ 3 → (k : ℕ) → k < j.window → BreaksWindow table v j.slot k → ⊥
  pub windowless : (j.rule ≡ 3 → ⊥) → j.window ≡ 0
