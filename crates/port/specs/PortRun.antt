-- The port's run (document 02, request 2.11): what it answers and leaves.
use Rattle.std.specs.Prelude.{◌≡◌, ℕ, List, length}
use Rattle.orders.specs.Verdict.{Verdict}
use Rattle.orders.specs.Answered.{verdict_of, unless_refused}
use Rattle.port_calculus.specs.Port.{port_rows, late_row}
use Rattle.port.specs.Refusals.{port_refusal}

-- what a port's run answers and leaves in the two lent lists
pub record PortRan (deadlines : List ℕ) (slots capacity : ℕ) (input sent late : List ℕ) (verdict : Verdict) (sent' late' : List ℕ) : Type 0 where
  pub answered : verdict ≡ verdict_of (port_refusal deadlines slots input (length sent) (length late))
  pub sends : sent' ≡ unless_refused (port_refusal deadlines slots input (length sent) (length late)) (port_rows deadlines slots capacity input) sent
  pub lates : late' ≡ unless_refused (port_refusal deadlines slots input (length sent) (length late)) (late_row deadlines slots capacity input) late
