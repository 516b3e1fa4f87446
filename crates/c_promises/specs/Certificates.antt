-- What C may conclude from certificates, of the lists that it lent, in the order of the functions' arguments.
use Rattle.std.specs.Prelude.{◌≡◌, List, ℕ, ◌-◌, ◌≤◌, length}
use Rattle.calculus.specs.Envelopes.Envelope.{windows}
use Rattle.calculus.specs.Regulators.Clipper.{arrived}
use Rattle.calculus.specs.Regulators.Trace.{arrivals, sum_to}
use Rattle.calculus.specs.Regulators.Rows.{envelope_of}
use Rattle.calculus.specs.Losses.Permitted.{Permitted, Quiet}
use Rattle.certificate_calculus.specs.Certificate.{at_slot, links_of, DepartedLink, Counts}
use Rattle.certificate_calculus.specs.LowestPair.{LowestPair}
use Rattle.refusals.specs.Limits.{delay_limit, buffer_limit}
use Rattle.c_answers.specs.Numbered.{RanByNumber}
use Rattle.certificate.specs.Claim.{claim_of}
use Rattle.found_links.specs.Given.{Given}
use Rattle.certificate.specs.Checked.{accepted, certificate_of}

pub record Certificates : Type 0 where
  -- Where `bezhantiru_check_certificate` answers neither a number nor a rule, nobody can have admitted or departed more or lost fewer by any slot.
  pub lowest : (table : List ℕ) (d q : ℕ) (trace ins outs from by gone : List ℕ) → (certificate_of (claim_of table d q trace ins outs from by gone)).number ≡ 0
      → (certificate_of (claim_of table d q trace ins outs from by gone)).rule ≡ 0
      → LowestPair (envelope_of table) (delay_limit d) (buffer_limit q) (arrivals trace) (length trace) (sum_to ins) (sum_to outs)
  -- Whatever lists hold, nobody can have admitted more or lost fewer by a slot that counts, nor departed more where the first slot of its departed
  -- link counts.
  pub counted : (table : List ℕ) (d q : ℕ) (trace ins outs from by gone : List ℕ) (x y : ℕ → ℕ)
      → Permitted (windows (envelope_of table)) (delay_limit d) (buffer_limit q) (arrivals trace) (length trace) x y → (t : ℕ) → t ≤ length trace
      → (Counts (envelope_of table) (delay_limit d) (buffer_limit q) (arrivals trace) (length trace) (sum_to ins) (links_of from by gone) t
      → (x t ≤ sum_to ins t) × (arrived (arrivals trace) t - sum_to ins t ≤ arrived (arrivals trace) t - x t))
      × (DepartedLink (envelope_of table) (sum_to ins) (sum_to outs) t (at_slot gone t)
      → Counts (envelope_of table) (delay_limit d) (buffer_limit q) (arrivals trace) (length trace) (sum_to ins) (links_of from by gone) (at_slot gone t) → y t ≤ sum_to outs t)
  -- Where `bezhantiru_run` and `bezhantiru_certify` answered 0 for the same set-up and trace, it answers 0 throughout of the lists that they left,
  -- under demand 3's premise, whatever they were lent.
  pub certified : (table : List ℕ) (d q : ℕ) (trace ins drops outs ins' drops' outs' : List ℕ) → RanByNumber table d q trace ins drops outs 0 ins' drops' outs'
      → (from by gone from' by' gone' : List ℕ) → Given table d q trace from by gone 0 from' by' gone' → Quiet (delay_limit d) (arrivals trace) (length trace)
      → certificate_of (claim_of table d q trace ins' outs' from' by' gone') ≡ accepted
