-- What a checker is given: a set-up and a trace, anyone's rows for it, packets admitted and departed in each slot, and the links that are to
-- certify them.
use Rattle.std.specs.Prelude.{List, ℕ, length}
use Rattle.calculus.specs.Numbers.Limit.{Limit, delay_limit, buffer_limit}
use Rattle.calculus.specs.Regulators.Trace.{arrivals, sum_to}
use Rattle.calculus.specs.Regulators.Rows.{envelope_of}
use Rattle.certificate_calculus.specs.Certificate.{Links, links_of, Certified}

pub record Claim : Type 0 where
  pub table : List ℕ
  pub delay : ℕ
  pub buffer : ℕ
  pub trace : List ℕ
  pub admitted : List ℕ
  pub departed : List ℕ
  pub admitted_from : List ℕ
  pub admitted_by : List ℕ
  pub departed_from : List ℕ

-- the claim of a call, in the order of its arguments
abbrev pub claim_of : List ℕ → ℕ → ℕ → List ℕ → List ℕ → List ℕ → List ℕ → List ℕ → List ℕ → Claim
claim_of table d q trace ins outs from by gone =
    record { table = table; delay = d; buffer = q; trace = trace; admitted = ins; departed = outs; admitted_from = from; admitted_by = by; departed_from = gone }

-- what is said of totals with their links, said of a claim's
abbrev pub of_claim {ℓ} : {A : Type ℓ} → ((f : ℕ → ℕ) (d q : Limit) (a : ℕ → ℕ) (T : ℕ) (u v : ℕ → ℕ) (links : Links) → A) → Claim → A
of_claim P c =
    P (envelope_of c.table) (delay_limit c.delay) (buffer_limit c.buffer) (arrivals c.trace) (length c.trace) (sum_to c.admitted) (sum_to c.departed)
    (links_of c.admitted_from c.admitted_by c.departed_from)

-- its totals are certified by its links
abbrev pub CertifiedClaim : Claim → Type 0
CertifiedClaim = of_claim Certified
