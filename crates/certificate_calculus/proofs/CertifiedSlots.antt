-- Every slot of a certified pair counts, each link leading back to an earlier slot.
use Prim.Native.Nat.{ℕ, zero, suc, ◌≤◌, ◌<◌}
use native.Mathlib.Omega.{arith}
use Rattle.calculus.specs.Numbers.Limit.{Limit}
use Rattle.calculus.proofs.Numbers.Course.{strongly}
use Rattle.certificate_calculus.specs.Certificate.{Links, AdmittedLink, Counts, start, linked}

-- Where the slots 1 to n all have an admitted link, they count.
pub slots_count : (f : ℕ → ℕ) (d q : Limit) (a : ℕ → ℕ) (T : ℕ) (u : ℕ → ℕ) (links : Links) (n : ℕ)
    → ((t : ℕ) → 1 ≤ t → t ≤ n → AdmittedLink f d q a T u t (links.admitted_from t) (links.admitted_by t)) → (t : ℕ) → t ≤ n → Counts f d q a T u links t
slots_count f d q a T u links n has = strongly (λ t. t ≤ n → Counts f d q a T u links t) step
  where
    step : (t : ℕ) → ((k : ℕ) → k < t → k ≤ n → Counts f d q a T u links k) → t ≤ n → Counts f d q a T u links t
    step zero ih p = start
    step (suc t) ih p =
        let link = has (suc t) (omega arith) p in
        linked link (ih (links.admitted_from (suc t)) link.earlier (omega (arith, link.earlier)))
