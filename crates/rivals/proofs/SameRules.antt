-- Totals that agree in the slots 0 to T break the same rules there.
use mathlib.Core.Path.{◌≡◌, refl, ap, ap₂}
use mathlib.Core.List.{List}
use Prim.Native.Nat.{ℕ, zero, suc, ◌-◌, ◌≤◌}
use native.Mathlib.Omega.{arith}
use lib.Dec.{ltb, eqb}
use Rattle.calculus.specs.Numbers.Limit.{Limit, none, at_most}
use Rattle.orders.specs.Refusal.{pick}
use Rattle.rival_calculus.specs.Broken.{is_over_arrivals, is_over_admitted, over_window, broken_window, is_over_envelope, is_over_buffer, is_over_delay, rule_at, broken_slot}
use Rattle.rivals.specs.Judgement.{broken_at}
use Rattle.rival_calculus.proofs.FirstUpTo.{first_cong}

module _ (table : List ℕ) (d q : Limit) (a : ℕ → ℕ) (T : ℕ) (x y u v : ℕ → ℕ) (same_u : (t : ℕ) → t ≤ T → x t ≡ u t)
    (same_v : (t : ℕ) → t ≤ T → y t ≡ v t) where
  earlier : (t k : ℕ) → t ≤ T → t - k ≤ T
  earlier t k p = omega arith

  window_cong : (t : ℕ) → t ≤ T → broken_window table y t ≡ broken_window table v t
  unfolding broken_window over_window
  window_cong t p = first_cong (over_window table y t) (over_window table v t) _ (λ k _ _. simp (same_v, earlier))

  rule_cong : (t : ℕ) → t ≤ T → rule_at table d q a x y t ≡ rule_at table d q a u v t
  unfolding rule_at is_over_arrivals is_over_admitted is_over_envelope
  rule_cong t p = simp (same_u, same_v, earlier, window_cong, buffer_cong q, delay_cong d)
    where
      buffer_cong : (l : Limit) → is_over_buffer l x y t ≡ is_over_buffer l u v t
      buffer_cong none = unfold is_over_buffer in refl
      buffer_cong (at_most n) = unfold is_over_buffer in simp (same_u, same_v, earlier)

      delay_cong : (l : Limit) → is_over_delay l x y t ≡ is_over_delay l u v t
      delay_cong none = unfold is_over_delay in refl
      delay_cong (at_most n) = unfold is_over_delay in simp (same_u, same_v, earlier)

  -- The first slot that breaks one is the same ..
  pub slot_cong : broken_slot table d q a T x y ≡ broken_slot table d q a T u v
  unfolding broken_slot
  slot_cong =
      first_cong (λ t. ltb 0 (rule_at table d q a x y t)) (λ t. ltb 0 (rule_at table d q a u v t)) T (λ t _ p. ap (ltb 0) (rule_cong t p))

  -- .. and so is what it breaks.
  pub broken_cong : (t : ℕ) → t ≤ T → broken_at table d q a x y t ≡ broken_at table d q a u v t
  unfolding broken_at
  broken_cong zero p = refl
  broken_cong (suc t) p =
      ap₂ (λ (r w : ℕ). record { number = 0; rule = r; slot = suc t; window = pick (eqb r 3) w 0 }) (rule_cong (suc t) p) (window_cong (suc t) p)
