-- The found certificate of totals u and v: of the admitted links that hold the earliest first slot, then the lowest mark; of the departed
-- links that hold the smallest first slot. First slot 0 and mark 0 stand for no link.
use Rattle.std.specs.Prelude.{cond, ℕ, ◌≤◌, leb}
use Rattle.calculus.specs.Numbers.Limit.{Limit}
use Rattle.calculus.specs.Numbers.FirstWhere.{first_where}
use Rattle.certificate_calculus.specs.Certificate.{Links, AdmittedLink, DepartedLink}
use Rattle.certificate_calculus.specs.LinkTests.{admitted_holds, departed_holds}

module _ (f : ℕ → ℕ) (d q : Limit) (a : ℕ → ℕ) (T : ℕ) (u : ℕ → ℕ) where
  -- the lowest mark of which the link from slot s to slot t holds; 4 where there is none
  unfoldable pub lowest_by : ℕ → ℕ → ℕ
  lowest_by t s = first_where 1 3 (λ mark. admitted_holds f d q a T u t s mark)

  -- the earliest slot from which a link to slot t holds; t+1 where there is none
  unfoldable pub earliest_from : ℕ → ℕ
  earliest_from t = first_where 0 t (λ s. leb (lowest_by t s) 3)

  unfoldable pub found_from : ℕ → ℕ
  found_from t = cond (leb (earliest_from t) t) (earliest_from t) 0

  unfoldable pub found_mark : ℕ → ℕ
  found_mark t = cond (leb (earliest_from t) t) (lowest_by t (earliest_from t)) 0

  -- The same said without a search: the first link ..
  pub record FirstAdmitted (t s mark : ℕ) : Type 0 where
    pub link : AdmittedLink f d q a T u t s mark
    pub earliest : (r m : ℕ) → AdmittedLink f d q a T u t r m → s ≤ r
    pub lowest : (m : ℕ) → AdmittedLink f d q a T u t s m → mark ≤ m

  -- .. or none.
  pub data AdmittedFound (t : ℕ) : ℕ → ℕ → Type 0 where
    admitted_first : {s mark : ℕ} → FirstAdmitted t s mark → AdmittedFound t s mark
    admitted_none : ((s mark : ℕ) → AdmittedLink f d q a T u t s mark → ⊥) → AdmittedFound t 0 0

module _ (f u v : ℕ → ℕ) where
  -- the smallest slot from which the departed link to slot t holds; t+1 where there is none
  unfoldable pub earliest_departed : ℕ → ℕ
  earliest_departed t = first_where 0 t (λ r. departed_holds f u v t r)

  unfoldable pub found_departed : ℕ → ℕ
  found_departed t = cond (leb (earliest_departed t) t) (earliest_departed t) 0

  -- The same said without a search.
  pub record FirstDeparted (t r : ℕ) : Type 0 where
    pub link : DepartedLink f u v t r
    pub earliest : (k : ℕ) → DepartedLink f u v t k → r ≤ k

  pub data DepartedFound (t : ℕ) : ℕ → Type 0 where
    departed_first : {r : ℕ} → FirstDeparted t r → DepartedFound t r
    departed_none : ((r : ℕ) → DepartedLink f u v t r → ⊥) → DepartedFound t 0

-- the found certificate
abbrev pub found_links : (ℕ → ℕ) → Limit → Limit → (ℕ → ℕ) → ℕ → (ℕ → ℕ) → (ℕ → ℕ) → Links
found_links f d q a T u v =
    record { admitted_from = found_from f d q a T u; admitted_by = found_mark f d q a T u; departed_from = found_departed f u v }
