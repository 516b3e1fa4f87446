-- The regulator alone: with both limits none all that arrives is admitted, and nothing is dropped.
use mathlib.Core.Path.{◌≡◌}
use mathlib.Core.List.{List}
use Prim.Native.Nat.{ℕ, suc, ◌<◌}
use native.Mathlib.Decide.{dec_lt}
use native.Mathlib.Omega.{arith}
use lib.ListN.{length, get_or, get_or-eq_default}
use lib.Seq.{ext_get_or}
use Rattle.calculus.specs.Numbers.Limit.{none}
use Rattle.calculus.specs.Envelopes.Envelope.{windows}
use Rattle.calculus.specs.Regulators.Clipper.{arrived}
use Rattle.calculus.specs.Regulators.Regulator.{lost}
use Rattle.calculus.specs.Regulators.Trace.{arrivals, slot_counts}
use Rattle.calculus.specs.Regulators.Rows.{envelope_of, admitted_by, lost_by, admitted_row, dropped_row}
use Rattle.calculus.proofs.Regulators.Clipper.{arrived-slot, admitted_all}
use Rattle.calculus.proofs.Regulators.Trace.{length-slot_counts, slot_counts_at}

module _ (table trace : List ℕ) where
  -- X(t) is A(t), so nothing is lost by any slot.
  pub alone-admitted : (t : ℕ) → admitted_by table none none trace t ≡ arrived (arrivals trace) t
  unfolding admitted_by
  alone-admitted t = admitted_all (windows (envelope_of table)) (arrivals trace) t

  pub alone-lost : (t : ℕ) → lost_by table none none trace t ≡ 0
  unfolding lost_by lost
  alone-lost t = omega (arith, admitted_all (windows (envelope_of table)) (arrivals trace) t)

  -- So the admitted row is the trace, and the dropped row has 0 in every slot.
  pub alone-admits : admitted_row table none none trace ≡ trace
  unfolding admitted_row arrivals
  alone-admits =
      ext_get_or 0 _ trace (length-slot_counts _ (length trace))
      (λ t p.
      let inside : t < length trace = omega (arith, length-slot_counts (admitted_by table none none trace) (length trace)) in
      omega (arith, slot_counts_at (admitted_by table none none trace) (length trace) t inside, alone-admitted t, alone-admitted (suc t), arrived-slot (arrivals trace) t))

  pub alone-drops : (t : ℕ) → get_or (dropped_row table none none trace) t 0 ≡ 0
  unfolding dropped_row
  alone-drops t =
      elim (dec_lt t (length trace)) [
        | yes p ↦ omega (arith, slot_counts_at (lost_by table none none trace) (length trace) t p, alone-lost (suc t))
        | no p ↦ get_or-eq_default (slot_counts (lost_by table none none trace) (length trace)) 0 {n = t} (omega (arith, length-slot_counts (lost_by table none none trace) (length trace)))
      ]
