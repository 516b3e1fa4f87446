-- The first link of a certificate that does not hold.
use Rattle.std.specs.Prelude.{cond, ℕ, ◌≤◌, ◌<◌, ltb}
use Rattle.calculus.specs.Numbers.Limit.{Limit}
use Rattle.calculus.specs.Numbers.FirstWhere.{first_where}
use Rattle.certificate_calculus.specs.Certificate.{Links, AdmittedLink, DepartedLink}
use Rattle.certificate_calculus.specs.LinkTests.{admitted_holds, departed_holds}

module _ (f : ℕ → ℕ) (d q : Limit) (a : ℕ → ℕ) (T : ℕ) (u v : ℕ → ℕ) (links : Links) where
  -- what slot t lacks: 6 where its admitted link does not hold, else 7 where its departed link does not, else 0
  unfoldable pub lack_at : ℕ → ℕ
  lack_at t =
      cond (admitted_holds f d q a T u t (links.admitted_from t) (links.admitted_by t))
      (cond (departed_holds f u v t (links.departed_from t)) 0 7) 6

  -- the first slot of 1 to T that lacks a link; T+1 where none does
  unfoldable pub lacking_slot : ℕ
  lacking_slot = first_where 1 T (λ t. ltb 0 (lack_at t))

  -- What a slot lacks, said without a test.
  pub data Lacks (t : ℕ) : ℕ → Type 0 where
    -- 6: its admitted link does not hold
    admitted_fails : (AdmittedLink f d q a T u t (links.admitted_from t) (links.admitted_by t) → ⊥) → Lacks t 6
    -- 7: its admitted link holds, and its departed link does not
    departed_fails : AdmittedLink f d q a T u t (links.admitted_from t) (links.admitted_by t)
        → (DepartedLink f u v t (links.departed_from t) → ⊥) → Lacks t 7

  -- Slot t is the first that lacks a link, and lacks this one.
  pub record LacksFirst (t lack : ℕ) : Type 0 where
    pub within : (1 ≤ t) × (t ≤ T)
    pub lacks : Lacks t lack
    pub before : (s : ℕ) → 1 ≤ s → s < t
        → AdmittedLink f d q a T u s (links.admitted_from s) (links.admitted_by s) × DepartedLink f u v s (links.departed_from s)
