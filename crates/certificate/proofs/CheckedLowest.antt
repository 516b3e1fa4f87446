-- Rows that the checker accepts are the lowest loss that there is: no permitted pair, of anyone, has admitted or departed more or lost fewer by
-- any slot. Neither theorem 5.1 nor demand 3's premise is needed.
use mathlib.Core.Path.{◌≡◌}
use lib.ListN.{length}
use Rattle.calculus.specs.Numbers.Limit.{delay_limit, buffer_limit}
use Rattle.calculus.specs.Regulators.Trace.{arrivals, sum_to}
use Rattle.calculus.specs.Regulators.Rows.{envelope_of}
use Rattle.certificate_calculus.specs.LowestPair.{LowestPair}
use Rattle.certificate_calculus.proofs.CertifiedLowest.{certified-lowest}
use Rattle.certificate.specs.Claim.{Claim}
use Rattle.certificate.specs.Checked.{accepted, certificate_of}
use Rattle.certificate.proofs.ClaimRows.{at_claim}
use Rattle.certificate.proofs.CheckedCertified.{checked_certified}

pub checked-lowest : (c : Claim) → certificate_of c ≡ accepted
    → LowestPair (envelope_of c.table) (delay_limit c.delay) (buffer_limit c.buffer) (arrivals c.trace) (length c.trace) (sum_to c.admitted) (sum_to c.departed)
checked-lowest c e = at_claim certified-lowest c ((checked_certified c).0 e).1
