-- Limits that allow more: a larger number, or none, the greatest of all.
use Rattle.std.specs.Prelude.{ℕ, ◌≤◌}
use Rattle.calculus.specs.Numbers.Limit.{Limit, none, at_most}

-- the second limit is none, or both are numbers and the second is no smaller
pub data NoTighter : Limit → Limit → Type 0 where
  to_none : (l : Limit) → NoTighter l none
  to_number : (n m : ℕ) → n ≤ m → NoTighter (at_most n) (at_most m)
