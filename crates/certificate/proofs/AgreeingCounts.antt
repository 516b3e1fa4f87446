-- Where totals and links agree, the same slots count.
use mathlib.Core.Path.{◌≡◌}
use Prim.Native.Nat.{ℕ, ◌≤◌}
use native.Mathlib.Omega.{arith}
use Rattle.calculus.specs.Numbers.Limit.{Limit}
use Rattle.certificate_calculus.specs.Certificate.{Links, Counts, start, linked}
use Rattle.certificate_calculus.proofs.AgreeingTotals.{admitted_alike}

module _ (f : ℕ → ℕ) (d q : Limit) (a : ℕ → ℕ) (T : ℕ) (u x : ℕ → ℕ) where
  pub counts_alike : (links other : Links) (t : ℕ) → ((k : ℕ) → k ≤ t → u k ≡ x k)
      → ((k : ℕ) → 1 ≤ k → k ≤ t → (other.admitted_from k ≡ links.admitted_from k) × (other.admitted_by k ≡ links.admitted_by k))
      → Counts f d q a T u links t → Counts f d q a T x other t
  counts_alike links other t same agree start = start
  counts_alike links other t same agree (linked link before) =
      let (from, by) = agree t (omega (arith, link.earlier)) (omega arith) in
      linked {t = t} (rw (from, by) (admitted_alike f d q a T u x t _ _ same link))
      (rw from (counts_alike links other _ (λ k low. same k (omega (arith, link.earlier))) (λ k one low. agree k one (omega (arith, link.earlier))) before))
