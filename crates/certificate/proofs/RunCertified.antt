-- Our own run is certified: under demand 3's premise the checker accepts the lists that an accepted run leaves together with those that
-- `certify` leaves for the same set-up and trace, whatever both were lent.
use mathlib.Core.Path.{◌≡◌}
use mathlib.Core.List.{List}
use Prim.Native.Nat.{ℕ}
use lib.ListN.{length}
use Rattle.calculus.specs.Regulators.Trace.{arrivals}
use Rattle.calculus.specs.Losses.Permitted.{Quiet}
use Rattle.refusals.specs.Limits.{delay_limit}
use Rattle.orders.specs.Verdict.{Verdict, Accepted}
use Rattle.trace.specs.WholeTrace.{Ran}
use Rattle.certificate.specs.Claim.{claim_of}
use Rattle.found_links.specs.Given.{Given}
use Rattle.certificate.specs.Checked.{accepted, certificate_of}
use Rattle.certificate.proofs.CheckedCertified.{checked_certified}
use Rattle.certificate.proofs.RunLinks.{run-refusal, run_links}

pub run_certified : (table : List ℕ) (d q : ℕ) (trace ins drops outs : List ℕ) (verdict : Verdict) (ins' drops' outs' : List ℕ)
    → Ran table d q trace ins drops outs verdict ins' drops' outs' → verdict ≡ Accepted
    → (from by gone : List ℕ) (answer : ℕ) (from' by' gone' : List ℕ) → Given table d q trace from by gone answer from' by' gone' → answer ≡ 0
    → Quiet (delay_limit d) (arrivals trace) (length trace) → certificate_of (claim_of table d q trace ins' outs' from' by' gone') ≡ accepted
run_certified table d q trace ins drops outs verdict ins' drops' outs' ran yes₀ from by gone answer from' by' gone' given none quiet =
    (checked_certified (claim_of table d q trace ins' outs' from' by' gone')).1 (
      run-refusal table d q trace ins drops outs verdict ins' drops' outs' ran yes₀ from by gone answer from' by' gone' given none,
      run_links table d q trace ins drops outs verdict ins' drops' outs' ran yes₀ from by gone answer from' by' gone' given none quiet,
    )
