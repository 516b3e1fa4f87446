-- Refusal numbers (document 01, "Refused, by place"): the first number that applies, and 0 where none does.
use Rattle.std.specs.Prelude.{ℕ, zero, suc, Bool, true, false}

-- the first where the test holds, else the second
unfoldable pub pick {ℓ} : {A : Type ℓ} → Bool → A → A → A
pick true a b = a
pick false a b = b

-- the number where the test holds, else none
unfoldable pub ◌when◌ : ℕ → Bool → ℕ
number when true = number
number when false = 0

-- the first number unless it is 0, else the second
unfoldable pub ◌or_else◌ : ℕ → ℕ → ℕ
zero or_else second = second
suc first or_else second = suc first

infixr 20 ◌or_else◌
infixr 30 ◌when◌
