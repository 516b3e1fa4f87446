-- What is refused of anyone's rows with a certificate, and what is answered of them.
use Rattle.std.specs.Prelude.{◌≡◌, ℕ, eqb, leb, length}
use Rattle.calculus.specs.Numbers.Limit.{Limit}
use Rattle.certificate_calculus.specs.Certificate.{Links}
use Rattle.certificate_calculus.specs.LackingLinks.{lack_at, lacking_slot, LacksFirst}
use Rattle.orders.specs.Refusal.{pick, ◌or_else◌}
use Rattle.refusals.specs.Limits.{set_up_refusal}
use Rattle.refusals.specs.Lengths.{length_refusal, lists_refusal, counts_refusal}
use Rattle.rivals.specs.declared.judge.Judgement.{Judgement}
use Rattle.rivals.specs.Judgement.{judgement_by, judgement_of}
use Rattle.certificate.specs.Claim.{Claim, of_claim, CertifiedClaim}

-- 11: one of the five lists not as long as the trace
unfoldable pub five_lists_refusal : Claim → ℕ
five_lists_refusal c =
    lists_refusal (length c.trace) (length c.admitted)
    or_else lists_refusal (length c.trace) (length c.departed)
    or_else lists_refusal (length c.trace) (length c.admitted_from)
    or_else lists_refusal (length c.trace) (length c.admitted_by)
    or_else lists_refusal (length c.trace) (length c.departed_from)

-- Set-up, 10, 11, 8.
unfoldable pub certificate_refusal : Claim → ℕ
certificate_refusal c =
    set_up_refusal c.table c.delay c.buffer
    or_else length_refusal (length c.trace)
    or_else five_lists_refusal c
    or_else counts_refusal c.trace

-- the answer that accepts
abbrev pub accepted : Judgement
accepted = record { number = 0; rule = 0; slot = 0; window = 0 }

-- what the judge answers of the rows
abbrev pub rows_judged : Claim → Judgement
rows_judged c = judgement_of c.table c.delay c.buffer c.trace c.admitted c.departed

-- what is answered of links: the first slot that lacks one, and what it lacks
unfoldable pub lack_answer : (ℕ → ℕ) → Limit → Limit → (ℕ → ℕ) → ℕ → (ℕ → ℕ) → (ℕ → ℕ) → Links → Judgement
lack_answer f d q a T u v links =
    pick (leb (lacking_slot f d q a T u v links) T)
    (record { number = 0; rule = lack_at f d q a T u v links (lacking_slot f d q a T u v links); slot = lacking_slot f d q a T u v links; window = 0 })
    accepted

-- what is answered of a claim: the number that refuses it; or the rule that its rows break first and where, as the judge has it; or what its
-- links lack first
unfoldable pub certificate_of : Claim → Judgement
certificate_of c = judgement_by (certificate_refusal c) (pick (eqb (rows_judged c).rule 0) (of_claim lack_answer c) (rows_judged c))

-- The same said without a test of a link.
pub data Answered (c : Claim) (j : Judgement) : Type 0 where
  -- A number refuses, and the rest is 0.
  refused : (certificate_refusal c ≡ 0 → ⊥) → j ≡ record { number = certificate_refusal c; rule = 0; slot = 0; window = 0 } → Answered c j
  -- The rows break a rule, and the judgement is the judge's.
  broken : certificate_refusal c ≡ 0 → ((rows_judged c).rule ≡ 0 → ⊥) → j ≡ rows_judged c → Answered c j
  -- They break none, and a link does not hold: the first.
  lacking : certificate_refusal c ≡ 0 → (rows_judged c).rule ≡ 0 → of_claim LacksFirst c j.slot j.rule → (j.number ≡ 0) × (j.window ≡ 0) → Answered c j
  -- They are certified, and all is 0.
  certified : certificate_refusal c ≡ 0 → CertifiedClaim c → j ≡ accepted → Answered c j
