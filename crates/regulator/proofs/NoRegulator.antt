-- A refused set-up gives no regulator: what stands for it refuses every slot, and no list of calls changes it.
use mathlib.Core.Path.{◌≡◌, refl}
use mathlib.Core.List.{List, [], map}
use Prim.Native.Nat.{ℕ, zero, suc, ◌≤◌}
use native.Mathlib.Omega.{arith}
use Rattle.orders.specs.Verdict.{Accepted}
use Rattle.refusals.specs.Limits.{set_up_refusal, slot_refusal}
use Rattle.live_step.specs.Answer.{Refused}
use Rattle.calls.specs.Calls.{answers, after, counted}
use Rattle.calls.proofs.SpentMachine.{spent-answers, spent_left, spent_none}
use Rattle.regulator.specs.Regulator.{no_regulator, set_up_by, set_up_of}
use Rattle.regulator.specs.LiveRun.{live_regulator}
use Rattle.regulator.proofs.LiveMachine.{regulator_takes}

-- 1,000,000 slots are already taken.
no_regulator_spent : live_regulator.slots no_regulator ≡ 1000000
unfolding live_regulator no_regulator
no_regulator_spent = refl

no_regulator_full : 1000000 ≤ live_regulator.slots no_regulator
no_regulator_full = omega (arith, no_regulator_spent)

-- Every call on it is refused, with 8 for more than 1,000,000 arrivals and else 9; no slot is answered; it stays as it was.
pub no_regulator_refuses : (calls : List ℕ)
    → (answers live_regulator no_regulator calls ≡ map (λ n. Refused (slot_refusal n 1000000)) calls)
    × (counted (answers live_regulator no_regulator calls) ≡ []) × (after live_regulator no_regulator calls ≡ no_regulator)
no_regulator_refuses calls = (
  rw no_regulator_spent at (spent-answers live_regulator regulator_takes no_regulator no_regulator_full calls),
  spent_none live_regulator regulator_takes no_regulator no_regulator_full calls,
  spent_left live_regulator regulator_takes no_regulator no_regulator_full calls,
)

-- That is what a refused set-up gives.
pub set_up_gives_none : (table : List ℕ) (d q : ℕ) → ((set_up_of table d q).verdict ≡ Accepted → ⊥) → (set_up_of table d q).regulator ≡ no_regulator
unfolding set_up_of
set_up_gives_none table d q refused = judged (set_up_refusal table d q) refused
  where
    judged : (k : ℕ) → ((set_up_by k table d q).verdict ≡ Accepted → ⊥) → (set_up_by k table d q).regulator ≡ no_regulator
    judged zero refused = absurd (refused (unfold set_up_by in refl))
    judged (suc k) refused = unfold set_up_by in refl
