-- The found certificate is the first link of each slot, and nothing else: of the admitted links that hold the earliest first slot, then the
-- lowest mark, of the departed links that hold the smallest first slot, and 0 where there is none.
use mathlib.Core.Path.{◌≡◌}
use mathlib.Core.Logic.{◌↔◌}
use Prim.Native.Nat.{ℕ}
use Rattle.calculus.specs.Numbers.Limit.{Limit}
use Rattle.certificate_calculus.specs.FoundLinks.{found_from, found_mark, AdmittedFound, found_departed, DepartedFound}
use Rattle.certificate_calculus.proofs.FoundLinks.{search-admitted, search-departed}
use Rattle.certificate_calculus.proofs.FirstLinks.{admitted_once, departed_once}

pub certificate_found : (f : ℕ → ℕ) (d q : Limit) (a : ℕ → ℕ) (T : ℕ) (u v : ℕ → ℕ) (t s mark r : ℕ)
    → (AdmittedFound f d q a T u t s mark ↔ ((s ≡ found_from f d q a T u t) × (mark ≡ found_mark f d q a T u t)))
    × (DepartedFound f u v t r ↔ (r ≡ found_departed f u v t))
certificate_found f d q a T u v t s mark r = (
  (λ first. admitted_once f d q a T u t s mark _ _ first (search-admitted f d q a T u t), λ (e, h). rw (e, h) (search-admitted f d q a T u t)),
  (λ first. departed_once f u v t r _ first (search-departed f u v t), λ e. rw e (search-departed f u v t)),
)
