-- There is one lowest pair at most, and nobody loses fewer. It departs as theorem 5.1's pair does, and admits as that does at every slot
-- whose deadline lies in the trace.
use mathlib.Core.Path.{◌≡◌}
use Prim.Native.Nat.{ℕ, ◌+◌, ◌-◌, ◌≤◌}
use native.Mathlib.Nat.{le_antisymm}
use native.Mathlib.Omega.{arith}
use Rattle.calculus.specs.Numbers.Limit.{Limit, at_most}
use Rattle.calculus.specs.Envelopes.Envelope.{windows, ClosedEnvelope}
use Rattle.calculus.specs.Regulators.Clipper.{arrived, admitted}
use Rattle.calculus.specs.Regulators.Regulator.{departed}
use Rattle.calculus.specs.Losses.Permitted.{Permitted, Quiet}
use Rattle.calculus.proofs.Losses.LowestLoss.{ours_permitted, departed_most, admitted_most_due, admitted_most}
use Rattle.certificate_calculus.specs.LowestPair.{LowestPair}

pub lowest_only : (f : ℕ → ℕ) (d q : Limit) (a : ℕ → ℕ) (T : ℕ) (x y u v : ℕ → ℕ) → LowestPair f d q a T x y → LowestPair f d q a T u v
    → (t : ℕ) → t ≤ T → (x t ≡ u t) × (y t ≡ v t)
lowest_only f d q a T x y u v one other t p =
    let (xu, yv, _) = other.lowest x y one.permitted t p in
    let (ux, vy, _) = one.lowest u v other.permitted t p in
    (le_antisymm xu ux, le_antisymm yv vy)

-- What the lowest pair admits and what anyone loses make at least what arrived.
pub lowest_loses : (f : ℕ → ℕ) (d q : Limit) (a : ℕ → ℕ) (T : ℕ) (u v x y : ℕ → ℕ) → LowestPair f d q a T u v → Permitted (windows f) d q a T x y
    → (t : ℕ) → t ≤ T → arrived a t ≤ u t + (arrived a t - x t)
lowest_loses f d q a T u v x y lowest permitted t p = omega (arith, (lowest.lowest x y permitted t p).2)

module _ (f : ℕ → ℕ) (closed : ClosedEnvelope (windows f)) (d q : Limit) (a : ℕ → ℕ) (T : ℕ) (u v : ℕ → ℕ) (lowest : LowestPair f d q a T u v) where
  abbrev X : ℕ → ℕ
  X = admitted (windows f) d q a

  abbrev Y : ℕ → ℕ
  Y = departed (windows f) d q a

  above_ours : (t : ℕ) → t ≤ T → (X t ≤ u t) × (Y t ≤ v t)
  above_ours t p = let (most, gone, _) = lowest.lowest X Y (ours_permitted (windows f) closed d q a T) t p in (most, gone)

  pub lowest-departs : (t : ℕ) → t ≤ T → v t ≡ Y t
  lowest-departs t p = le_antisymm (departed_most (windows f) closed d q a T u v lowest.permitted t p) (above_ours t p).1

  pub lowest_due : (t n : ℕ) → d ≡ at_most n → t + n ≤ T → u t ≡ X t
  lowest_due t n e p = le_antisymm (admitted_most_due (windows f) closed d q a T u v lowest.permitted t n e p) (above_ours t (omega arith)).0

  -- Under demand 3's premise it is theorem 5.1's pair.
  pub lowest_ours : Quiet d a T → (t : ℕ) → t ≤ T → (u t ≡ X t) × (v t ≡ Y t)
  lowest_ours quiet t p = (le_antisymm (admitted_most (windows f) closed d q a T u v lowest.permitted quiet t p) (above_ours t p).0, lowest-departs t p)
