-- Totals that agree have the same links.
use mathlib.Core.Path.{◌≡◌}
use Prim.Native.Nat.{ℕ, ◌≤◌}
use native.Mathlib.Omega.{arith}
use Rattle.calculus.specs.Numbers.Limit.{Limit}
use Rattle.calculus.specs.Envelopes.Envelope.{windows}
use Rattle.calculus.specs.Losses.Permitted.{Permitted}
use Rattle.certificate_calculus.specs.Certificate.{Links, AdmittedLink, DepartedLink, Certified}

module _ (f : ℕ → ℕ) (d q : Limit) (a : ℕ → ℕ) (T : ℕ) (u x : ℕ → ℕ) where
  pub admitted_alike : (t s m : ℕ) → ((k : ℕ) → k ≤ t → u k ≡ x k) → AdmittedLink f d q a T u t s m → AdmittedLink f d q a T x t s m
  admitted_alike t s m same link =
      record {
        earlier = link.earlier;
        packets = link.packets;
        amounts = link.amounts;
        makes = omega (arith, link.makes, same t (omega arith), same s (omega (arith, link.earlier)));
      }

  module _ (v y : ℕ → ℕ) where
    pub departed_alike : (t r : ℕ) → ((k : ℕ) → k ≤ t → u k ≡ x k) → ((k : ℕ) → k ≤ t → v k ≡ y k) → DepartedLink f u v t r → DepartedLink f x y t r
    departed_alike t r same_u same_v link =
        record { by = link.by; makes = omega (arith, link.makes, same_u r link.by, same_v r link.by, same_v t (omega arith)) }

    -- What certifies a pair certifies any permitted pair with the same totals, by the same links.
    pub certified_alike : (links other : Links) → ((t : ℕ) → t ≤ T → u t ≡ x t) → ((t : ℕ) → t ≤ T → v t ≡ y t)
        → ((t : ℕ) → 1 ≤ t → t ≤ T → (other.admitted_from t ≡ links.admitted_from t) × (other.admitted_by t ≡ links.admitted_by t) × (other.departed_from t ≡ links.departed_from t))
        → Permitted (windows f) d q a T x y → Certified f d q a T u v links → Certified f d q a T x y other
    certified_alike links other same_u same_v agree permitted certified =
        record {
          permitted = permitted;
          admitted_link = λ t p within.
              let (from, by, _) = agree t p (omega arith) in
              rw (from, by) (admitted_alike t _ _ (λ k low. same_u k (omega arith)) (certified.admitted_link t p within));
          departed_link = λ t p within.
              let (_, _, gone) = agree t p (omega arith) in
              rw gone (departed_alike t _ (λ k low. same_u k (omega arith)) (λ k low. same_v k (omega arith)) (certified.departed_link t p within));
        }
