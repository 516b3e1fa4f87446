-- A certified pair is theorem 5.1's under demand 3's premise, that d is none or the trace ends in at least d slots without arrivals.
use mathlib.Core.Path.{◌≡◌}
use Prim.Native.Nat.{ℕ, ◌≤◌}
use Rattle.calculus.specs.Numbers.Limit.{Limit}
use Rattle.calculus.specs.Envelopes.Envelope.{windows, ClosedEnvelope}
use Rattle.calculus.specs.Regulators.Clipper.{admitted}
use Rattle.calculus.specs.Regulators.Regulator.{departed}
use Rattle.calculus.specs.Losses.Permitted.{Quiet}
use Rattle.certificate_calculus.specs.Certificate.{Links, Certified}
use Rattle.certificate_calculus.proofs.CertifiedLowest.{certified-lowest}
use Rattle.certificate_calculus.proofs.LowestPair.{lowest_ours}

pub certified_ours : (f : ℕ → ℕ) → ClosedEnvelope (windows f) → (d q : Limit) (a : ℕ → ℕ) (T : ℕ) (u v : ℕ → ℕ) (links : Links) → Certified f d q a T u v links
    → Quiet d a T → (t : ℕ) → t ≤ T → (u t ≡ admitted (windows f) d q a t) × (v t ≡ departed (windows f) d q a t)
certified_ours f closed d q a T u v links certified = lowest_ours f closed d q a T u v (certified-lowest f d q a T u v links certified)
