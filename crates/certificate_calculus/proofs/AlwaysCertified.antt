-- Every trace, whatever it ends in, has one lowest pair, which is certified; under demand 3's premise it is theorem 5.1's.
use mathlib.Core.Path.{◌≡◌, ◌∙◌}
use Prim.Native.Nat.{ℕ, ◌≤◌}
use Rattle.calculus.specs.Numbers.Limit.{Limit}
use Rattle.calculus.specs.Envelopes.Envelope.{windows, ClosedEnvelope}
use Rattle.calculus.specs.Regulators.Clipper.{admitted}
use Rattle.calculus.specs.Regulators.Regulator.{departed}
use Rattle.calculus.specs.Losses.Permitted.{Quiet}
use Rattle.certificate_calculus.specs.LowestPair.{LowestPair, OneLowest}
use Rattle.certificate_calculus.proofs.CertifiedLowest.{certified-lowest}
use Rattle.certificate_calculus.proofs.LowestPair.{lowest_only, lowest_ours}
use Rattle.certificate_calculus.proofs.DuePair.{due_admitted, due_departed, due_certified}

pub always_certified : (f : ℕ → ℕ) → ClosedEnvelope (windows f) → (d q : Limit) (a : ℕ → ℕ) (T : ℕ) → OneLowest f d q a T
always_certified f closed d q a T =
    record {
      u = due_admitted f d q a T;
      v = due_departed f d q a T;
      lowest = lowest;
      only = λ x y other. lowest_only f d q a T x y _ _ other lowest;
      certified = due_certified f d q a T closed;
      ours = lowest_ours f closed d q a T _ _ lowest;
    }
  where
    lowest : LowestPair f d q a T (due_admitted f d q a T) (due_departed f d q a T)
    lowest = certified-lowest f d q a T _ _ _ (due_certified f d q a T closed)

-- By every slot, the last included: under that premise whoever has the lowest loss has our totals.
pub one-lowest_ours : (f : ℕ → ℕ) (d q : Limit) (a : ℕ → ℕ) (T : ℕ) → OneLowest f d q a T → Quiet d a T → (x y : ℕ → ℕ) → LowestPair f d q a T x y
    → (t : ℕ) → t ≤ T → (x t ≡ admitted (windows f) d q a t) × (y t ≡ departed (windows f) d q a t)
one-lowest_ours f d q a T one quiet x y lowest t p =
    let (same, gone) = one.only x y lowest t p in
    let (ours, left) = one.ours quiet t p in
    (same ∙ ours, gone ∙ left)
