-- The rows that a certificate's links are checked from.
use Rattle.std.specs.Prelude.{◌≡◌, List, ℕ, ◌≤◌, get_or}
use Rattle.chain.specs.Prepared.{Checkable}

-- Of a table, two limits, a trace and totals: f at the windows, and by the slots 0 to T what arrived, was admitted and has departed.
pub record CheckRows (table : List ℕ) (d q : ℕ) (trace : List ℕ) (T : ℕ) (u v : ℕ → ℕ) (windows arrived admitted departed : List ℕ) : Type 0 where
  pub checkable : Checkable table d q trace T windows arrived
  pub rises : (s t : ℕ) → s ≤ t → t ≤ T → u s ≤ u t
  pub admits : (t : ℕ) → t ≤ T → get_or admitted t 0 ≡ u t
  pub departs : (t : ℕ) → t ≤ T → get_or departed t 0 ≡ v t
