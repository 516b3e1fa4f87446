-- What it is to break a rule of document 01's list ("The lowest loss curve", with request 2.9's fill) in a slot, in its words and
-- without a judge: a(t) arrives in slot t, u(t) and v(t) are admitted and departed in slots 1 to t.
use Rattle.std.specs.Prelude.{◌≡◌, List, ℕ, ◌+◌, ◌-◌, ◌≤◌, ◌<◌, get_or}
use Rattle.calculus.specs.Numbers.Limit.{Limit, at_most}
use Rattle.refusals.specs.Table.{last_window}

-- more departs in the k slots up to t than the table's entry at window k, which is 1 to L
pub record BreaksWindow (table : List ℕ) (v : ℕ → ℕ) (t k : ℕ) : Type 0 where
  pub from : 1 ≤ k
  pub to : k ≤ last_window table
  pub back : k ≤ t
  pub over : v (t - k) + get_or table k 0 < v t

pub data Breaks (table : List ℕ) (d q : Limit) (a u v : ℕ → ℕ) (t : ℕ) : ℕ → Type 0 where
  -- 1: more is admitted in the slot than arrives
  over_arrivals : u (t - 1) + a t < u t → Breaks table d q a u v t 1
  -- 2: V(t) is above U(t)
  over_admitted : u t < v t → Breaks table d q a u v t 2
  -- 3: the envelope
  over_envelope : (k : ℕ) → BreaksWindow table v t k → Breaks table d q a u v t 3
  -- 4: U(t) - V(t-1) is above q
  over_buffer : (n : ℕ) → q ≡ at_most n → v (t - 1) + n < u t → Breaks table d q a u v t 4
  -- 5: U(t-d) is above V(t)
  over_delay : (n : ℕ) → d ≡ at_most n → n ≤ t → v t < u (t - n) → Breaks table d q a u v t 5
