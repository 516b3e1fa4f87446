-- What the least loss says of anyone who is permitted, whoever is: one regulator's pairs, a path's or a square's.
use mathlib.Core.Path.{◌≡◌}
use Prim.Native.Nat.{ℕ, ◌+◌, ◌≤◌}
use native.Mathlib.Omega.{arith}
use mathlib.Core.List.{List}
use lib.ListN.{length}
use Rattle.calculus.specs.Numbers.Limit.{Limit, at_most}
use Rattle.calculus.specs.Regulators.Clipper.{arrived}
use Rattle.calculus.specs.Regulators.Trace.{arrivals, sum_to}
use Rattle.calculus.specs.Losses.Permitted.{Quiet}
use Rattle.calculus.specs.Losses.LossCurve.{LowestAmong}

-- A rival's totals: what it has admitted, departed and lost by each slot. What arrived it has admitted or lost.
module _ (Among : (ℕ → ℕ) → (ℕ → ℕ) → Type 0) (d : Limit) (X Y : ℕ → ℕ) (trace ins drops outs : List ℕ)
    (ours : LowestAmong Among d X Y trace ins drops outs) (admitted departed lost : ℕ → ℕ) (permitted : Among admitted departed)
    (counted : (t : ℕ) → t ≤ length trace → admitted t + lost t ≡ arrived (arrivals trace) t) where
  -- Under demand 3's premise a permitted rival has admitted and departed at most as many as ours by every slot, and lost at least as many.
  pub any_rival_loses : Quiet d (arrivals trace) (length trace) → (t : ℕ) → t ≤ length trace
      → (admitted t ≤ sum_to ins t) × (departed t ≤ sum_to outs t) × (sum_to drops t ≤ lost t)
  any_rival_loses quiet t p =
      let (more, later, less) = ours.lowest quiet admitted departed permitted t p in
      (more, later, omega (arith, counted t p))

  -- Without it that holds of what departed, by every slot, and of what was admitted and lost by a slot whose deadline lies in the trace.
  pub any_rival-departs : (t : ℕ) → t ≤ length trace → departed t ≤ sum_to outs t
  any_rival-departs t p = ours.departed_most admitted departed permitted t p

  pub any_rival_loses_due : (t n : ℕ) → d ≡ at_most n → t + n ≤ length trace → (admitted t ≤ sum_to ins t) × (sum_to drops t ≤ lost t)
  any_rival_loses_due t n e p =
      let more = ours.admitted_most_due admitted departed permitted t n e p in
      (more, omega (arith, counted t (omega arith), ours.dropped_total t (omega arith), ours.admitted_total t (omega arith)))
