-- The first number of a range that passes a test (document 02, requests 2.4 and 2.8: "the earliest first slot is taken, then the lowest mark").
use Rattle.std.specs.Prelude.{ℕ, suc, Bool, cond}
use Rattle.calculus.specs.Numbers.Least.{least}

-- the first k from a to b of which p holds; b+1 where there is none
unfoldable pub first_where : ℕ → ℕ → (ℕ → Bool) → ℕ
first_where a b p = least a b (λ k. cond (p k) k (suc b))
