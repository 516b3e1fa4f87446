-- Laws of the fill and of its greatest value: what an order form may read off.
use mathlib.Core.Path.{◌≡◌, refl}
use Prim.Native.Nat.{ℕ, zero, suc, ◌+◌, ◌-◌, ◌≤◌}
use native.Mathlib.Decide.{dec_le}
use native.Mathlib.Omega.{arith}
use Rattle.calculus.specs.Numbers.Limit.{Limit, at_most}
use Rattle.calculus.specs.Envelopes.Envelope.{ClosedEnvelope}
use Rattle.calculus.specs.Regulators.Regulator.{departed, held}
use Rattle.calculus.specs.Regulators.Fill.{form_fill_at, bench_fill_at, greatest}
use Rattle.calculus.proofs.Regulators.Regulator.{admitted-zero, departed_under, departed_rises, buffer-kept}

-- Nothing of slots 1 to T is above the greatest ..
pub greatest_above : (h : ℕ → ℕ) (T t : ℕ) → 1 ≤ t → t ≤ T → h t ≤ greatest h T
unfolding greatest
greatest_above h zero t p q = absurd (omega arith)
greatest_above h (suc T) t p q =
    elim (dec_le t T) [
      | yes r ↦ omega (arith, greatest_above h T t p r)
      | no r ↦ let e : t ≡ suc T = omega arith in rw e (omega arith)
    ]

-- .. it is one of them where there is a slot ..
pub greatest_attained : (h : ℕ → ℕ) (T : ℕ) → (t : ℕ) × (1 ≤ t) × (t ≤ suc T) × (greatest h (suc T) ≡ h t)
unfolding greatest
greatest_attained h zero = (1, omega arith, omega arith, omega arith)
greatest_attained h (suc T) =
    let (t, p, q, e) = greatest_attained h T in
    elim (dec_le (greatest h (suc T)) (h (suc (suc T)))) [
      | yes r ↦ (suc (suc T), omega arith, omega arith, omega arith)
      | no r ↦ (t, p, omega arith, omega (arith, e))
    ]

-- .. and at most whatever they all are.
pub greatest_most : (h : ℕ → ℕ) (T m : ℕ) → ((t : ℕ) → 1 ≤ t → t ≤ T → h t ≤ m) → greatest h T ≤ m
unfolding greatest
greatest_most h zero m p = omega arith
greatest_most h (suc T) m p = omega (arith, greatest_most h T m (λ t q r. p t q (omega arith)), p (suc T) (omega arith) (omega arith))

module _ (F : ℕ → ℕ → ℕ) (closed : ClosedEnvelope F) (d q : Limit) (a : ℕ → ℕ) where
  -- The form's fill is what is held after the slot.
  pub form-held : (t : ℕ) → form_fill_at F d q a t ≡ held F d q a t
  unfolding form_fill_at held
  form-held t = refl

  -- The bench's is that and the slot's departures.
  pub bench-form : (t : ℕ) → bench_fill_at F d q a (suc t) ≡ form_fill_at F d q a (suc t) + (departed F d q a (suc t) - departed F d q a t)
  unfolding bench_fill_at form_fill_at
  bench-form t =
      let before : suc t - 1 ≡ t = omega arith in
      rw before (omega (arith, departed_under F closed d q a (suc t), departed_rises F closed d q a t (suc t) (omega arith)))

module _ (F : ℕ → ℕ → ℕ) (closed : ClosedEnvelope F) (d q : Limit) (a : ℕ → ℕ) (n : ℕ) (limited : q ≡ at_most n) where
  -- The bench's fill is within the buffer limit ..
  pub bench_within : (t : ℕ) → bench_fill_at F d q a t ≤ n
  unfolding bench_fill_at
  bench_within zero = omega (arith, admitted-zero F closed d q a)
  bench_within (suc t) =
      let before : suc t - 1 ≡ t = omega arith in
      rw before (omega (arith, buffer-kept F closed d q a n limited t))

  -- .. and so is the form's, which is no greater.
  pub form_within : (t : ℕ) → form_fill_at F d q a t ≤ n
  unfolding form_fill_at
  form_within zero = omega (arith, admitted-zero F closed d q a)
  form_within (suc t) = omega (arith, buffer-kept F closed d q a n limited t, departed_rises F closed d q a t (suc t) (omega arith))
