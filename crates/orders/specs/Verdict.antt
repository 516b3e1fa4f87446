-- What is answered where a number may refuse.
use Rattle.std.specs.Prelude.{ℕ}

pub data Verdict : Type 0 where
  Accepted : Verdict
  Refused : ℕ → Verdict
