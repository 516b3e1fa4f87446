-- A certified pair is lowest, over any trace, whatever it ends in, and for any f: no permitted pair has admitted or departed more by any
-- slot, or lost fewer. Neither theorem 5.1 nor demand 3's premise is needed.
use Prim.Native.Nat.{ℕ, zero, suc, ◌≤◌}
use native.Mathlib.Omega.{arith}
use Rattle.calculus.specs.Numbers.Limit.{Limit}
use Rattle.calculus.specs.Envelopes.Envelope.{windows}
use Rattle.calculus.specs.Losses.Permitted.{Permitted}
use Rattle.certificate_calculus.specs.Certificate.{Links, Certified, Counts}
use Rattle.certificate_calculus.specs.LowestPair.{LowestPair}
use Rattle.certificate_calculus.proofs.CertifiedSlots.{slots_count}
use Rattle.certificate_calculus.proofs.CountedLowest.{counted-lowest, counted-departs}

pub certified-lowest : (f : ℕ → ℕ) (d q : Limit) (a : ℕ → ℕ) (T : ℕ) (u v : ℕ → ℕ) (links : Links) → Certified f d q a T u v links → LowestPair f d q a T u v
certified-lowest f d q a T u v links certified =
    record {
      permitted = certified.permitted;
      lowest = λ x y permitted t p.
          let (most, lost) = counted-lowest f d q a T u v links x y permitted t p (counts t p) in
          (most, departs x y permitted t p, lost);
    }
  where
    counts : (t : ℕ) → t ≤ T → Counts f d q a T u links t
    counts = slots_count f d q a T u links T certified.admitted_link

    departs : (x y : ℕ → ℕ) → Permitted (windows f) d q a T x y → (t : ℕ) → t ≤ T → y t ≤ v t
    departs x y permitted zero p = omega (arith, permitted.departed_starts)
    departs x y permitted (suc t) p =
        let link = certified.departed_link (suc t) (omega arith) p in
        counted-departs f d q a T u v links x y permitted (suc t) _ p link (counts _ (omega (arith, link.by)))
