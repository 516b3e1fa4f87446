-- The rows of what an accepted file holds: those of the regulator alone where both limits are none, else those of the run.
use mathlib.Core.Path.{◌≡◌, refl}
use mathlib.Core.Bool.{Bool, true, false, ◌&&◌}
use mathlib.Core.List.{List}
use Prim.Native.Nat.{ℕ}
use lib.Dec.{eqb}
use lib.ListN.{length}
use Rattle.calculus.specs.Numbers.Limit.{none, limit_unless}
use Rattle.calculus.specs.Regulators.Rows.{admitted_row, dropped_row, departed_row}
use Rattle.orders.specs.Refusal.{◌when◌, ◌or_else◌}
use Rattle.orders.specs.Verdict.{Verdict}
use Rattle.refusals.specs.Limits.{delay_limit, buffer_limit, both_refusal, limits_refusal, set_up_refusal}
use Rattle.refusals.specs.WholeTrace.{run_refusal, alone_refusal}
use Rattle.trace.specs.WholeTrace.{Ran, RanAlone}
use Rattle.orders.specs.Answered.{unless_refused}
use Rattle.trace.specs.RunWork.{Workable}

marked : (a b : Bool) (d q : ℕ) → (23 when (a && b) ≡ 0 → ⊥) → (limit_unless a d ≡ none) × (limit_unless b q ≡ none)
unfolding limit_unless ◌when◌
marked true true d q p = (refl, refl)
marked true false d q p = absurd (p refl)
marked false b d q p = absurd (p refl)

-- Where 23 applies, both limits are none.
both_none : (d q : ℕ) → (both_refusal d q ≡ 0 → ⊥) → (delay_limit d ≡ none) × (buffer_limit q ≡ none)
unfolding both_refusal delay_limit buffer_limit
both_none d q p = marked (eqb d 255) (eqb q 4294967295) d q p

module _ (table : List ℕ) (d q : ℕ) (trace ins drops outs : List ℕ) (fine : Workable table d q trace (length ins) (length drops) (length outs)) where
  pub alone_none : alone_refusal table trace (length ins) (length drops) (length outs) ≡ 0
  unfolding alone_refusal ◌or_else◌
  alone_none = rw fine.tabled fine.traced

  pub run_none : both_refusal d q ≡ 0 → run_refusal table d q trace (length ins) (length drops) (length outs) ≡ 0
  unfolding run_refusal set_up_refusal limits_refusal ◌or_else◌
  run_none e = rw (fine.tabled, fine.delayed, fine.buffered, e) fine.traced

  -- With both limits none, the regulator alone fills the rows ..
  pub alone_fills : {verdict : Verdict} {ins' drops' outs' : List ℕ} → (both_refusal d q ≡ 0 → ⊥) → RanAlone table trace ins drops outs verdict ins' drops' outs'
      → (ins' ≡ admitted_row table (delay_limit d) (buffer_limit q) trace) × (drops' ≡ dropped_row table (delay_limit d) (buffer_limit q) trace) × (outs' ≡ departed_row table (delay_limit d) (buffer_limit q) trace)
  unfolding unless_refused
  alone_fills p ran =
      let (delays, buffers) = both_none d q p in
      rw (delays, buffers) (rw alone_none at ran.admits, rw alone_none at ran.dropped, rw alone_none at ran.departs)

  -- .. and else the run.
  pub run_fills : {verdict : Verdict} {ins' drops' outs' : List ℕ} → both_refusal d q ≡ 0 → Ran table d q trace ins drops outs verdict ins' drops' outs'
      → (ins' ≡ admitted_row table (delay_limit d) (buffer_limit q) trace) × (drops' ≡ dropped_row table (delay_limit d) (buffer_limit q) trace) × (outs' ≡ departed_row table (delay_limit d) (buffer_limit q) trace)
  unfolding unless_refused
  run_fills e ran = (rw (run_none e) at ran.admits, rw (run_none e) at ran.dropped, rw (run_none e) at ran.departs)
