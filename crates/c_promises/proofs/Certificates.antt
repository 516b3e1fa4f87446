-- What C may conclude from certificates.
use mathlib.Core.Path.{refl}
use lib.ListN.{length}
use Rattle.calculus.specs.Regulators.Trace.{arrivals, sum_to}
use Rattle.calculus.specs.Regulators.Rows.{envelope_of}
use Rattle.certificate_calculus.specs.Certificate.{links_of}
use Rattle.certificate_calculus.proofs.CountedLowest.{counted-lowest, counted-departs}
use Rattle.orders.specs.Answered.{verdict_of}
use Rattle.refusals.specs.Limits.{delay_limit, buffer_limit}
use Rattle.certificate.specs.Claim.{claim_of}
use Rattle.certificate.proofs.ZeroAnswers.{zero_settled}
use Rattle.certificate.proofs.CheckedLowest.{checked-lowest}
use Rattle.certificate.proofs.RunCertified.{run_certified}
use Rattle.c_promises.specs.Certificates.{Certificates}

pub certificates : Certificates
unfolding verdict_of
certificates =
    record {
      lowest = λ table d q trace ins outs from by gone none kept.
          let c = claim_of table d q trace ins outs from by gone in
          checked-lowest c (zero_settled c none kept).2;
      counted = λ table d q trace ins outs from by gone x y permitted t p. (
        counted-lowest (envelope_of table) (delay_limit d) (buffer_limit q) (arrivals trace) (length trace) (sum_to ins) (sum_to outs) (links_of from by gone) x y permitted t p,
        counted-departs (envelope_of table) (delay_limit d) (buffer_limit q) (arrivals trace) (length trace) (sum_to ins) (sum_to outs) (links_of from by gone) x y permitted t _ p,
      );
      certified = λ table d q trace ins drops outs ins' drops' outs' ran from by gone from' by' gone' given.
          run_certified table d q trace ins drops outs _ ins' drops' outs' ran.ran refl from by gone 0 from' by' gone' given refl;
    }
