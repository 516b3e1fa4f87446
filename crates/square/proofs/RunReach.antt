-- How far a run over a square reaches.
use mathlib.Core.Path.{◌≡◌, refl}
use mathlib.Core.Bool.{Bool, true, false}
use Prim.Native.Nat.{ℕ, ◌+◌, ◌≤◌, ◌<◌}
use native.Mathlib.Omega.{arith}
use lib.Dec.{ltb, eqb}
use borrow.Author.Tests.{ltb-false, lt-ltb, le-ltb, eq-eqb, ne_eqb}
use Rattle.calculus.proofs.Numbers.Distinct.{zero_one}
use Rattle.calculus.specs.Numbers.Limit.{at_most, limit_unless}
use Rattle.square_calculus.specs.SquareRows.{Reached}
use Rattle.orders.specs.Refusal.{pick, ◌when◌}
use Rattle.orders.proofs.Refusals.{when_none}
use Rattle.refusals.specs.Limits.{delay_limit}
use Rattle.square.specs.RunRefusals.{reach_refusal}

reach-number : (b : Bool) (d slots n : ℕ) → slots + pick b 0 d ≤ 32 → limit_unless b d ≡ at_most n → slots + n ≤ 32
unfolding pick limit_unless
reach-number true d slots n p e = absurd (zero_one cc)
reach-number false d slots n p e = let same : d ≡ n = cc in omega arith

-- A trace above 32 slots gets 20, any with no delay limit and at most 32 slots none, and else slots and delay are added.
module _ (d slots : ℕ) where
  pub reach_long : 32 < slots → 20 ≡ reach_refusal d slots
  unfolding reach_refusal ◌when◌
  reach_long p = rw (lt-ltb 32 (slots + pick (eqb d 255) 0 d) (omega arith)) refl

  pub reach_none : slots ≤ 32 → d ≡ 255 → 0 ≡ reach_refusal d slots
  unfolding reach_refusal ◌when◌ pick
  reach_none p e = rw (eq-eqb d 255 e, le-ltb 32 (slots + 0) (omega arith)) refl

  pub reach_over : (d ≡ 255 → ⊥) → 32 < slots + d → 20 ≡ reach_refusal d slots
  unfolding reach_refusal ◌when◌ pick
  reach_over p q = rw (ne_eqb d 255 p, lt-ltb 32 (slots + d) q) refl

  pub reach_fine : (d ≡ 255 → ⊥) → slots + d ≤ 32 → 0 ≡ reach_refusal d slots
  unfolding reach_refusal ◌when◌ pick
  reach_fine p q = rw (ne_eqb d 255 p, le-ltb 32 (slots + d) q) refl

  pub reach-accepted : reach_refusal d slots ≡ 0 → Reached (delay_limit d) slots
  unfolding reach_refusal delay_limit
  reach-accepted e =
      let fits : slots + pick (eqb d 255) 0 d ≤ 32 = ltb-false 32 (slots + pick (eqb d 255) 0 d) (when_none 19 (ltb 32 (slots + pick (eqb d 255) 0 d)) e) in
      record { slots = omega arith; delayed = λ n same. reach-number (eqb d 255) d slots n fits same }
