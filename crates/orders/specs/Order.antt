-- Ordered refusals (document 01, "Refused, by place"): "Each number is given when its condition is first met in this order, and never otherwise."
use Rattle.std.specs.Prelude.{◌≡◌, List, [], ◌∷◌, ◌++◌, ◌↔◌, ℕ, zero, suc, ◌<◌}

-- a number and its condition
pub record Row : Type 1 where
  pub number : ℕ
  pub condition : Type 0

infix 70 ◌if◌
abbrev pub ◌if◌ : ℕ → Type 0 → Row
number if condition = record { number = number; condition = condition }

-- rows in the order in which they are looked at
abbrev pub Order : Type 1
Order = List Row

-- one order after the other
infixr 20 ◌then◌
abbrev pub ◌then◌ : Order → Order → Order
first then second = first ++ second

-- the number for x outside low to high
infix 69 ◌unless◌from◌to◌
abbrev pub ◌unless◌from◌to◌ : ℕ → ℕ → ℕ → ℕ → Order
number unless x from low to high = number if (x < low) ∷ number if (high < x) ∷ []

-- the rows of each in turn
unfoldable pub each : {A : Type 0} → (A → Order) → List A → Order
each rows [] = []
each rows (x ∷ others) = rows x then each rows others

-- the rows of 0, 1, .., n in turn
unfoldable pub through : (ℕ → Order) → ℕ → Order
through rows zero = rows 0
through rows (suc n) = through rows n then rows (suc n)

-- n is the number of the first row whose condition holds, and no 0; or 0, where none holds
pub data FirstThatApplies : Order → ℕ → Type 1 where
  nothing : {n : ℕ} → n ≡ 0 → FirstThatApplies [] n
  this : {row : Row} {rest : Order} {n : ℕ} → row.condition → n ≡ row.number → 0 < n → FirstThatApplies (row ∷ rest) n
  after : {row : Row} {rest : Order} {n : ℕ} → ¬ row.condition → FirstThatApplies rest n → FirstThatApplies (row ∷ rest) n

-- no condition holds
unfoldable pub NoneApplies : Order → Type 0
NoneApplies [] = Unit {0}
NoneApplies (row ∷ rest) = (¬ row.condition) × NoneApplies rest

-- An order settles a number: it is the first that applies, no other is, and it is 0, that is accepted, exactly when no condition holds.
pub record Judged (order : Order) (n : ℕ) : Type 1 where
  pub first : FirstThatApplies order n
  pub only : (m : ℕ) → FirstThatApplies order m → m ≡ n
  pub accepted : (n ≡ 0) ↔ NoneApplies order
