-- What the checker's functions are given: rows, links, and a claim.
use Rattle.std.specs.Prelude.{◌≡◌, List, ℕ, ◌≤◌, length, Option, Some, None}
use Rattle.certificate_calculus.specs.Certificate.{Links, links_of}
use Rattle.certificate.specs.CheckRows.{CheckRows}
use Rattle.certificate.specs.Claim.{Claim, claim_of}
use Rattle.certificate.specs.declared.held.Rows.{Rows}
use Rattle.certificate.specs.declared.check.Lack.{Lack}
use Rattle.certificate.specs.declared.check.Lack.TheVariants.{Admitted, Departed}
use Rattle.certificate.specs.declared.check.Lists.{Lists}
use Rattle.certificate.specs.declared.check.Certificate.{Certificate}

-- the rows are read off a table, a trace, and totals u and v by the slots 0 to T
abbrev pub RowsRead : Rows → List ℕ → List ℕ → ℕ → (ℕ → ℕ) → (ℕ → ℕ) → Type 0
RowsRead r table trace T u v = CheckRows table r.delay r.buffer trace T u v r.windows.now r.arrived.now r.admitted.now r.departed.now

-- the number of what a slot lacks, 0 where it lacks nothing
abbrev pub lack_number : Option Lack → ℕ
lack_number None = 0
lack_number (Some Admitted) = 6
lack_number (Some Departed) = 7

-- the links of three lists, which are as long as each other, of at most 4,096 slots
abbrev pub links_in : Lists → Links
links_in l = links_of l.from.now l.by.now l.gone.now

abbrev pub Even : Lists → Type 0
Even l = (length l.from.now ≤ 4096) × (length l.by.now ≡ length l.from.now) × (length l.gone.now ≡ length l.from.now)

-- the claim of a certificate that is lent
abbrev pub claimed : Certificate → Claim
claimed c = claim_of c.table.now c.delay.0 c.buffer.0 c.arrivals.now c.admitted.now c.departed.now c.links.from.now c.links.by.now c.links.gone.now
