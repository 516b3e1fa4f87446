-- What is answered of a claim, refused, broken or by its links.
use mathlib.Core.Path.{◌≡◌, refl, ◌∙◌}
use mathlib.Core.Bool.{Bool, true, false}
use Prim.Native.Nat.{ℕ, zero, suc, ◌≤◌, ◌<◌}
use lib.Dec.{eqb, leb}
use lib.ListN.{length}
use borrow.Author.Tests.{le-leb, lt-leb, eq-eqb, ne_eqb}
use Rattle.certificate_calculus.specs.LackingLinks.{lack_at, lacking_slot}
use Rattle.orders.specs.Refusal.{pick}
use Rattle.rivals.specs.declared.judge.Judgement.{Judgement}
use Rattle.rivals.specs.Judgement.{judgement_by}
use Rattle.rivals.proofs.RivalAnswer.{judged-number}
use Rattle.certificate.specs.Claim.{Claim, of_claim}
use Rattle.certificate.specs.Checked.{certificate_refusal, accepted, rows_judged, lack_answer, certificate_of}
use Rattle.certificate.proofs.ClaimRows.{claim-accepted, claim_judged}

module _ (c : Claim) where
  abbrev T : ℕ
  T = length c.trace

  abbrev slot : ℕ
  slot = of_claim lacking_slot c

  -- A number is answered with 0 for the rest.
  pub answer_refused : (k : ℕ) → (k ≡ 0 → ⊥) → k ≡ certificate_refusal c → record { number = k; rule = 0; slot = 0; window = 0 } ≡ certificate_of c
  unfolding certificate_of judgement_by
  answer_refused zero some e = absurd (some refl)
  answer_refused (suc k) some e = rw (← e)

  module _ (none : certificate_refusal c ≡ 0) where
    -- A rule that is broken is answered as the judge does ..
    pub answer_broken : (j : Judgement) → j ≡ rows_judged c → (j.rule ≡ 0 → ⊥) → j ≡ certificate_of c
    unfolding certificate_of judgement_by pick
    answer_broken j same some = rw (none, ← same, ne_eqb j.rule 0 some) refl

    -- .. and where none is, the links are answered.
    pub answer_links : (j : Judgement) → (rows_judged c).rule ≡ 0 → j ≡ of_claim lack_answer c → j ≡ certificate_of c
    unfolding certificate_of judgement_by pick
    answer_links j kept same = rw (none, eq-eqb (rows_judged c).rule 0 kept, same) refl

  pub links-lack : slot ≤ T → record { number = 0; rule = of_claim lack_at c slot; slot = slot; window = 0 } ≡ of_claim lack_answer c
  unfolding lack_answer pick
  links-lack p = rw (le-leb slot T p) refl

  pub links_hold : T < slot → accepted ≡ of_claim lack_answer c
  unfolding lack_answer pick
  links_hold p = rw (lt-leb slot T p) refl

  links-number : (of_claim lack_answer c).number ≡ 0
  unfolding lack_answer
  links-number = either (leb slot T)
    where
      either : (b : Bool) → (pick b (record { number = 0; rule = of_claim lack_at c slot; slot = slot; window = 0 }) accepted).number ≡ 0
      either true = unfold pick in refl
      either false = unfold pick in refl

  -- The number answered is the one that refuses.
  pub answer-number : (certificate_of c).number ≡ certificate_refusal c
  unfolding certificate_of
  answer-number = by_number (certificate_refusal c) _ (λ none. by-rule (eqb (rows_judged c).rule 0) none)
    where
      by_number : (n : ℕ) (j : Judgement) → (n ≡ 0 → j.number ≡ 0) → (judgement_by n j).number ≡ n
      by_number zero j e = unfold judgement_by in e refl
      by_number (suc n) j e = unfold judgement_by in refl

      by-rule : (b : Bool) → certificate_refusal c ≡ 0 → (pick b (of_claim lack_answer c) (rows_judged c)).number ≡ 0
      by-rule true none = unfold pick in links-number
      by-rule false none =
          unfold pick in
          judged-number c.table c.delay c.buffer c.trace c.admitted c.departed ∙ claim_judged c (claim-accepted c none)
