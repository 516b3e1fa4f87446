-- There is one first link, or none.
use mathlib.Core.Path.{◌≡◌, refl}
use Prim.Native.Nat.{ℕ}
use native.Mathlib.Nat.{le_antisymm}
use Rattle.calculus.specs.Numbers.Limit.{Limit}
use Rattle.certificate_calculus.specs.FoundLinks.{AdmittedFound, admitted_first, admitted_none, DepartedFound, departed_first, departed_none}

pub admitted_once : (f : ℕ → ℕ) (d q : Limit) (a : ℕ → ℕ) (T : ℕ) (u : ℕ → ℕ) (t s m r k : ℕ)
    → AdmittedFound f d q a T u t s m → AdmittedFound f d q a T u t r k → (s ≡ r) × (m ≡ k)
admitted_once f d q a T u t s m r k (admitted_first one) (admitted_first other) =
    let same : s ≡ r = le_antisymm (one.earliest r k other.link) (other.earliest s m one.link) in
    (same, le_antisymm (one.lowest k (rw same other.link)) (other.lowest m (rw (← same) one.link)))
admitted_once f d q a T u t s m r k (admitted_first one) (admitted_none fails) = absurd (fails s m one.link)
admitted_once f d q a T u t s m r k (admitted_none fails) (admitted_first other) = absurd (fails r k other.link)
admitted_once f d q a T u t s m r k (admitted_none fails) (admitted_none _) = (refl, refl)

pub departed_once : (f u v : ℕ → ℕ) (t r k : ℕ) → DepartedFound f u v t r → DepartedFound f u v t k → r ≡ k
departed_once f u v t r k (departed_first one) (departed_first other) = le_antisymm (one.earliest k other.link) (other.earliest r one.link)
departed_once f u v t r k (departed_first one) (departed_none fails) = absurd (fails r one.link)
departed_once f u v t r k (departed_none fails) (departed_first other) = absurd (fails k other.link)
departed_once f u v t r k (departed_none fails) (departed_none _) = refl
