-- An answer with neither a number nor a rule is 0 throughout.
use mathlib.Core.Path.{◌≡◌, sym, ap, ◌∙◌}
use Prim.Native.Nat.{ℕ}
use native.Mathlib.Omega.{arith}
use Rattle.certificate_calculus.specs.LackingLinks.{Lacks, admitted_fails, departed_fails}
use Rattle.rivals.specs.declared.judge.Judgement.{Judgement}
use Rattle.certificate.specs.Claim.{Claim, of_claim, CertifiedClaim}
use Rattle.certificate.specs.Checked.{certificate_refusal, accepted, certificate_of, Answered, refused, broken, lacking, certified}
use Rattle.certificate.proofs.CertificateAnswered.{certificate_answered}

module _ (c : Claim) where
  -- What a slot lacks is 6 or 7.
  lack_named : {t lack : ℕ} → of_claim Lacks c t lack → lack ≡ 0 → ⊥
  lack_named (admitted_fails fails) e = omega arith
  lack_named (departed_fails link fails) e = omega arith

  settled : {j : Judgement} → Answered c j → j.number ≡ 0 → j.rule ≡ 0 → (certificate_refusal c ≡ 0) × CertifiedClaim c × (j ≡ accepted)
  settled (refused some e) none kept = absurd (some (ap (λ (j : Judgement). j.number) (sym e) ∙ none))
  settled (broken _ some e) none kept = absurd (some (ap (λ (j : Judgement). j.rule) (sym e) ∙ kept))
  settled (lacking _ _ first _) none kept = absurd (lack_named first.lacks kept)
  settled (certified taken good e) none kept = (taken, good, e)

  pub zero_settled : (certificate_of c).number ≡ 0 → (certificate_of c).rule ≡ 0 → (certificate_refusal c ≡ 0) × CertifiedClaim c × (certificate_of c ≡ accepted)
  zero_settled = settled (certificate_answered c)
