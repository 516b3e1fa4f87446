-- A pair is lowest exactly if its found links certify it.
use mathlib.Core.Logic.{◌↔◌}
use Prim.Native.Nat.{ℕ}
use native.Mathlib.Omega.{arith}
use Rattle.calculus.specs.Numbers.Limit.{Limit}
use Rattle.calculus.specs.Envelopes.Envelope.{windows, ClosedEnvelope}
use Rattle.certificate_calculus.specs.Certificate.{Certified}
use Rattle.certificate_calculus.specs.FoundLinks.{found_links}
use Rattle.certificate_calculus.specs.LowestPair.{LowestPair}
use Rattle.certificate_calculus.proofs.CertifiedLowest.{certified-lowest}
use Rattle.certificate_calculus.proofs.FoundLinks.{found-holds, found-departs}
use Rattle.certificate_calculus.proofs.AgreeingTotals.{admitted_alike, departed_alike}
use Rattle.certificate_calculus.proofs.LowestPair.{lowest_only}
use Rattle.certificate_calculus.proofs.DuePair.{due_admitted, due_departed, due_certified}

pub lowest_certified : (f : ℕ → ℕ) → ClosedEnvelope (windows f) → (d q : Limit) (a : ℕ → ℕ) (T : ℕ) (u v : ℕ → ℕ)
    → LowestPair f d q a T u v ↔ Certified f d q a T u v (found_links f d q a T u v)
lowest_certified f closed d q a T u v = (there, certified-lowest f d q a T u v _)
  where
    due : Certified f d q a T (due_admitted f d q a T) (due_departed f d q a T) (found_links f d q a T (due_admitted f d q a T) (due_departed f d q a T))
    due = due_certified f d q a T closed

    there : LowestPair f d q a T u v → Certified f d q a T u v (found_links f d q a T u v)
    there lowest =
        let same = lowest_only f d q a T _ _ u v (certified-lowest f d q a T _ _ _ due) lowest in
        record {
          permitted = lowest.permitted;
          admitted_link = λ t p within.
              found-holds f d q a T u t _ _ (admitted_alike f d q a T _ u t _ _ (λ k low. (same k (omega arith)).0) (due.admitted_link t p within));
          departed_link = λ t p within.
              found-departs f u v t _ (departed_alike f d q a T _ u _ v t _ (λ k low. (same k (omega arith)).0) (λ k low. (same k (omega arith)).1) (due.departed_link t p within));
        }
