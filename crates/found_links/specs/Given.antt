-- The certificate that is given for our own run, and what is left in the lent lists.
use Rattle.std.specs.Prelude.{◌≡◌, List, ℕ, length}
use Rattle.calculus.specs.Regulators.Trace.{arrivals, slot_totals}
use Rattle.calculus.specs.Regulators.Rows.{envelope_of, admitted_by, departed_by}
use Rattle.certificate_calculus.specs.Certificate.{Links}
use Rattle.certificate_calculus.specs.FoundLinks.{found_links}
use Rattle.refusals.specs.Limits.{delay_limit, buffer_limit}
use Rattle.orders.specs.Answered.{unless_refused}
use Rattle.refusals.specs.WholeTrace.{run_refusal}

-- three lists hold the links of the slots 1 to T
abbrev pub Listed : Links → ℕ → List ℕ → List ℕ → List ℕ → Type 0
Listed links T from by gone = (from ≡ slot_totals links.admitted_from T) × (by ≡ slot_totals links.admitted_by T) × (gone ≡ slot_totals links.departed_from T)

-- the found certificate of theorem 5.1's totals
abbrev pub our_links : List ℕ → ℕ → ℕ → List ℕ → Links
our_links table d q trace =
    found_links (envelope_of table) (delay_limit d) (buffer_limit q) (arrivals trace) (length trace) (admitted_by table (delay_limit d) (buffer_limit q) trace)
    (departed_by table (delay_limit d) (buffer_limit q) trace)

-- The number that refuses, as for a whole trace: set-up, 10, 11, 8; or 0, and the lists get the links of the slots 1 to T. A refused call
-- writes to none of them.
pub record Given (table : List ℕ) (d q : ℕ) (trace from by gone : List ℕ) (answer : ℕ) (from' by' gone' : List ℕ) : Type 0 where
  pub answered : answer ≡ run_refusal table d q trace (length from) (length by) (length gone)
  pub from_filled : from' ≡ unless_refused (run_refusal table d q trace (length from) (length by) (length gone)) (slot_totals (our_links table d q trace).admitted_from (length trace)) from
  pub by_filled : by' ≡ unless_refused (run_refusal table d q trace (length from) (length by) (length gone)) (slot_totals (our_links table d q trace).admitted_by (length trace)) by
  pub gone_filled : gone' ≡ unless_refused (run_refusal table d q trace (length from) (length by) (length gone)) (slot_totals (our_links table d q trace).departed_from (length trace)) gone
