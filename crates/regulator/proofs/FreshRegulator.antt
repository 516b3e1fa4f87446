-- An accepted set-up: its regulator is fresh.
use mathlib.Core.Path.{◌≡◌, refl}
use mathlib.Core.List.{List}
use Prim.Native.Nat.{ℕ, zero, suc, ◌<◌}
use lib.ListN.{length, get_or, length-replicate, get_or-replicate}
use Rattle.calculus.proofs.Numbers.Distinct.{zero_one}
use Rattle.orders.specs.Verdict as verdict
use Rattle.refusals.specs.Limits.{set_up_refusal}
use Rattle.regulator.specs.Regulator.{fresh_regulator, set_up_by, set_up_of}

-- A set-up is accepted where it gets no number, and its regulator is then fresh.
pub set_up_verdict : (table : List ℕ) (d q : ℕ) → (set_up_of table d q).verdict ≡ verdict.Accepted
    → (set_up_refusal table d q ≡ 0) × ((set_up_of table d q).regulator ≡ fresh_regulator table d q)
unfolding set_up_of
set_up_verdict table d q e = judged (set_up_refusal table d q) e
  where
    judged : (k : ℕ) → (set_up_by k table d q).verdict ≡ verdict.Accepted → (k ≡ 0) × ((set_up_by k table d q).regulator ≡ fresh_regulator table d q)
    judged zero e = unfold set_up_by in (refl, refl)
    judged (suc k) e = absurd (unfold set_up_by in zero_one cc)

-- Its row has 192 places, each 0.
pub fresh-row : (table : List ℕ) (d q : ℕ)
    → (length (fresh_regulator table d q).row ≡ 192) × ((k : ℕ) → k < 192 → get_or (fresh_regulator table d q).row k 0 ≡ 0)
unfolding fresh_regulator
fresh-row table d q = (length-replicate {A = ℕ} 192 0, λ k p. get_or-replicate 192 k 0 0 p)
