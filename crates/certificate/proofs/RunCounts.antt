-- Whatever the trace ends in, each slot of our own run whose deadline lies in the trace counts: by the lists that an accepted run leaves and
-- the links that `certify` leaves for the same set-up and trace, whatever both were lent.
use mathlib.Core.Path.{◌≡◌}
use mathlib.Core.List.{List}
use Prim.Native.Nat.{ℕ, ◌+◌, ◌≤◌}
use lib.ListN.{length}
use Rattle.calculus.specs.Numbers.Limit.{at_most}
use Rattle.calculus.specs.Regulators.Trace.{arrivals, sum_to}
use Rattle.calculus.specs.Regulators.Rows.{envelope_of}
use Rattle.certificate_calculus.specs.Certificate.{links_of, Counts}
use Rattle.refusals.specs.Limits.{delay_limit, buffer_limit}
use Rattle.orders.specs.Verdict.{Verdict, Accepted}
use Rattle.trace.specs.WholeTrace.{Ran}
use Rattle.found_links.specs.Given.{Given}
use Rattle.certificate.proofs.RunLinks.{run-slots}

pub run_counts : (table : List ℕ) (d q : ℕ) (trace ins drops outs : List ℕ) (verdict : Verdict) (ins' drops' outs' : List ℕ)
    → Ran table d q trace ins drops outs verdict ins' drops' outs' → verdict ≡ Accepted
    → (from by gone : List ℕ) (answer : ℕ) (from' by' gone' : List ℕ) → Given table d q trace from by gone answer from' by' gone' → answer ≡ 0
    → (n : ℕ) → delay_limit d ≡ at_most n → (t : ℕ) → t + n ≤ length trace
    → Counts (envelope_of table) (delay_limit d) (buffer_limit q) (arrivals trace) (length trace) (sum_to ins') (links_of from' by' gone') t
run_counts = run-slots
