-- Anyone's rows with a certificate are accepted, with 0 throughout, exactly if no number refuses them and they are certified.
use mathlib.Core.Path.{◌≡◌, sym, ap}
use mathlib.Core.Logic.{◌↔◌}
use Rattle.certificate_calculus.proofs.LackingLinks.{none-slot}
use Rattle.rivals.specs.declared.judge.Judgement.{Judgement}
use Rattle.rivals.proofs.JudgedPermitted.{permitted_judged}
use Rattle.certificate.specs.Claim.{Claim, CertifiedClaim}
use Rattle.certificate.specs.Checked.{certificate_refusal, accepted, certificate_of}
use Rattle.certificate.proofs.ClaimRows.{at_claim, claim-accepted, claim_judged}
use Rattle.certificate.proofs.ClaimAnswers.{answer_links, links_hold}
use Rattle.certificate.proofs.ZeroAnswers.{zero_settled}

pub checked_certified : (c : Claim) → certificate_of c ≡ accepted ↔ (certificate_refusal c ≡ 0) × CertifiedClaim c
checked_certified c = (there, λ (none, good). back none good)
  where
    there : certificate_of c ≡ accepted → (certificate_refusal c ≡ 0) × CertifiedClaim c
    there e =
        let (none, good, _) = zero_settled c (ap (λ (j : Judgement). j.number) e) (ap (λ (j : Judgement). j.rule) e) in
        (none, good)

    back : certificate_refusal c ≡ 0 → CertifiedClaim c → certificate_of c ≡ accepted
    back none good =
        let judged = permitted_judged c.table c.delay c.buffer c.trace c.admitted c.departed (claim_judged c (claim-accepted c none)) good.permitted in
        let links = at_claim none-slot c (λ t p within. (good.admitted_link t p within, good.departed_link t p within)) in
        sym (answer_links c none accepted (ap (λ (j : Judgement). j.rule) judged) (links_hold c links))
