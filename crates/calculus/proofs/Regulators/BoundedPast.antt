-- The bounded past of the live regulator: the next slot's totals follow from the last L departed totals and the running totals.
use mathlib.Core.Path.{◌≡◌}
use Prim.Native.Nat.{ℕ, suc, ◌-◌}
use native.Mathlib.Omega.{arith}
use Rattle.calculus.specs.Numbers.Limit.{Limit}
use Rattle.calculus.specs.Envelopes.Closure.{closure, Table}
use Rattle.calculus.specs.Envelopes.Envelope.{windows}
use Rattle.calculus.specs.Regulators.Clipper.{admitted}
use Rattle.calculus.specs.Regulators.Regulator.{departed}
use Rattle.calculus.specs.Regulators.BoundedPast.{next_admitted, next_departed}
use Rattle.calculus.proofs.Regulators.Memory.{input_next, output_next}

module _ (L : ℕ) (table : ℕ → ℕ) (given : Table L table) (d q : Limit) (a : ℕ → ℕ) where
  -- f, X and Y
  abbrev f : ℕ → ℕ
  f = closure L table

  abbrev X : ℕ → ℕ
  X = admitted (windows f) d q a

  abbrev Y : ℕ → ℕ
  Y = departed (windows f) d q a

  -- the departed total k slots before slot t+1; before slot 0 it is Y(0)
  abbrev past : ℕ → ℕ → ℕ
  past t k = Y (suc t - k)

  -- X(t+1) follows from X(t), the arrivals of slot t+1 and the last L departed totals.
  pub admitted_next : (t : ℕ) → X (suc t) ≡ next_admitted L f d q (past t) (X t) (a (suc t))
  unfolding departed
  admitted_next t = input_next L table given d q a L t (omega arith)

  -- Y(t+1) follows from X(t+1) and the last L departed totals.
  pub departed_next : (t : ℕ) → Y (suc t) ≡ next_departed L f (past t) (X (suc t))
  unfolding departed
  departed_next t = output_next L table given X L t (omega arith)
