-- One slot is the first that lacks a link, and it lacks one thing: before it nothing is lacking.
use mathlib.Core.Path.{◌≡◌, refl}
use Prim.Native.Nat.{ℕ, ◌≤◌}
use native.Mathlib.Nat.{le_antisymm}
use native.Mathlib.Decide.{dec_le}
use native.Mathlib.Omega.{arith}
use Rattle.calculus.specs.Numbers.Limit.{Limit}
use Rattle.certificate_calculus.specs.Certificate.{Links, AdmittedLink, DepartedLink}
use Rattle.certificate_calculus.specs.LackingLinks.{Lacks, admitted_fails, departed_fails, LacksFirst}

module _ (f : ℕ → ℕ) (d q : Limit) (a : ℕ → ℕ) (T : ℕ) (u v : ℕ → ℕ) (links : Links) where
  both_hold : (t lack : ℕ) → AdmittedLink f d q a T u t (links.admitted_from t) (links.admitted_by t)
      → DepartedLink f u v t (links.departed_from t) → Lacks f d q a T u v links t lack → ⊥
  both_hold t lack one other (admitted_fails fails) = fails one
  both_hold t lack one other (departed_fails _ fails) = fails other

  lacks_one : (t lack other : ℕ) → Lacks f d q a T u v links t lack → Lacks f d q a T u v links t other → lack ≡ other
  lacks_one t lack other (admitted_fails _) (admitted_fails _) = refl
  lacks_one t lack other (admitted_fails fails) (departed_fails holds _) = absurd (fails holds)
  lacks_one t lack other (departed_fails holds _) (admitted_fails fails) = absurd (fails holds)
  lacks_one t lack other (departed_fails _ _) (departed_fails _ _) = refl

  none_earlier : (t s lack other : ℕ) → LacksFirst f d q a T u v links t lack → LacksFirst f d q a T u v links s other → t ≤ s
  none_earlier t s lack other first also =
      elim (dec_le t s) [
        | yes p ↦ p
        | no p ↦ let (one, gone) = first.before s also.within.0 (omega arith) in absurd (both_hold s other one gone also.lacks)
      ]

  pub lacks_once : (t s lack other : ℕ) → LacksFirst f d q a T u v links t lack → LacksFirst f d q a T u v links s other → (t ≡ s) × (lack ≡ other)
  lacks_once t s lack other first also =
      let same : t ≡ s = le_antisymm (none_earlier t s lack other first also) (none_earlier s t other lack also first) in
      (same, lacks_one t lack other first.lacks (rw same also.lacks))
