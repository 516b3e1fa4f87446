-- A port's run that is not refused (document 02, request 2.11).
use Rattle.std.specs.Prelude.{◌≡◌, ℕ, ◌*◌, ◌≤◌, List, length, get_or}

-- what an accepted run has
pub record Accepted (deadlines : List ℕ) (slots : ℕ) (input : List ℕ) (sent late : ℕ) : Type 0 where
  pub some : 1 ≤ length deadlines
  pub few : length deadlines ≤ 8
  pub short : slots ≤ 256
  pub timely : (i : ℕ) → get_or deadlines i 0 ≤ 64
  pub long_input : length input ≡ length deadlines * slots
  pub long_sent : sent ≡ length deadlines * slots
  pub long_late : late ≡ length deadlines
  pub small : (k : ℕ) → get_or input k 0 ≤ 1000000
