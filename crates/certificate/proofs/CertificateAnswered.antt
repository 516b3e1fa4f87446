-- What is answered of anyone's rows with a certificate, said without a test of a link: a number; the rule that the rows break first; the first
-- slot whose link does not hold, the admitted link before the departed one; or that they are certified.
use mathlib.Core.Path.{◌≡◌, refl, sym}
use native.Mathlib.Decide.{dec_le, ℕ_discrete}
use native.Mathlib.Omega.{arith}
use lib.ListN.{length}
use Rattle.certificate_calculus.specs.LackingLinks.{lacking_slot}
use Rattle.certificate_calculus.proofs.LackingLinks.{slot_none, slot-first}
use Rattle.certificate.specs.Claim.{Claim, of_claim}
use Rattle.certificate.specs.Checked.{certificate_refusal, rows_judged, certificate_of, Answered, refused, broken, lacking, certified}
use Rattle.certificate.proofs.ClaimRows.{at_claim, claim-accepted, claim_permitted}
use Rattle.certificate.proofs.ClaimAnswers.{answer_refused, answer_broken, answer_links, links-lack, links_hold}

pub certificate_answered : (c : Claim) → Answered c (certificate_of c)
certificate_answered c =
    elim (ℕ_discrete (certificate_refusal c) 0) [
      | no some ↦ refused some (sym (answer_refused c (certificate_refusal c) some refl))
      | yes none ↦
          elim (ℕ_discrete (rows_judged c).rule 0) [
            | no some ↦ broken none some (sym (answer_broken c none (rows_judged c) refl some))
            | yes kept ↦ linked none kept
          ]
    ]
  where
    linked : certificate_refusal c ≡ 0 → (rows_judged c).rule ≡ 0 → Answered c (certificate_of c)
    linked none kept =
        elim (dec_le (of_claim lacking_slot c) (length c.trace)) [
          | yes p ↦
              let same = answer_links c none _ kept (links-lack c p) in
              rw (← same) (lacking none kept (at_claim slot-first c p) (refl, refl))
          | no p ↦
              let has = at_claim slot_none c (omega arith) in
              certified none
              (record {
                permitted = claim_permitted c (claim-accepted c none) kept;
                admitted_link = λ t one within. (has t one within).0;
                departed_link = λ t one within. (has t one within).1;
              })
              (sym (answer_links c none _ kept (links_hold c (omega arith))))
        ]
