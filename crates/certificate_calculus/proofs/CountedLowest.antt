-- A slot that counts is lowest, whatever the other slots hold: no permitted pair has admitted more or lost fewer by it. Where the first slot
-- of a departed link counts, none has departed more by its last.
use Prim.Native.Nat.{ℕ, ◌-◌, ◌≤◌}
use native.Mathlib.Omega.{arith}
use Rattle.calculus.specs.Numbers.Limit.{Limit}
use Rattle.calculus.specs.Envelopes.Envelope.{windows}
use Rattle.calculus.specs.Regulators.Clipper.{arrived}
use Rattle.calculus.specs.Losses.Permitted.{Permitted}
use Rattle.certificate_calculus.specs.Certificate.{Links, DepartedLink, Counts, start, linked}
use Rattle.certificate_calculus.proofs.UsableLinks.{departed-bound, usable_bounds}

module _ (f : ℕ → ℕ) (d q : Limit) (a : ℕ → ℕ) (T : ℕ) (u v : ℕ → ℕ) (links : Links) (x y : ℕ → ℕ) (permitted : Permitted (windows f) d q a T x y) where
  -- Link by link from slot 0: what anyone has admitted by a link's last slot is at most what he has by its first, and the amount.
  counted_most : (t : ℕ) → t ≤ T → Counts f d q a T u links t → x t ≤ u t
  counted_most t p start = omega (arith, permitted.admitted_starts)
  counted_most t p (linked link before) =
      let s = links.admitted_from t in
      omega (
        arith,
        link.makes,
        usable_bounds f d q a T x y permitted s t link.packets (omega (arith, link.earlier)) p link.amounts,
        counted_most s (omega (arith, link.earlier)) before,
      )

  pub counted-lowest : (t : ℕ) → t ≤ T → Counts f d q a T u links t → (x t ≤ u t) × (arrived a t - u t ≤ arrived a t - x t)
  counted-lowest t p counts = (counted_most t p counts, omega (arith, counted_most t p counts))

  pub counted-departs : (t r : ℕ) → t ≤ T → DepartedLink f u v t r → Counts f d q a T u links r → y t ≤ v t
  counted-departs t r p link counts =
      omega (arith, link.makes, departed-bound f d q a T x y permitted r t link.by p, counted_most r (omega (arith, link.by)) counts)
