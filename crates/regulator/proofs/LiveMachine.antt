-- A live regulator takes slots, and from a fresh one each slot of a trace leads to the regulator that follows theorem 5.1.
use mathlib.Core.Path.{◌≡◌, refl, ap, ◌∙◌}
use mathlib.Core.List.{List}
use Prim.Native.Nat.{ℕ, zero, suc, ◌-◌, ◌≤◌, ◌<◌, min}
use native.Mathlib.Omega.{arith}
use native.Mathlib.Numerals.{add-one}
use lib.ListN.{get_or}
use Rattle.calculus.specs.Numbers.Limit.{Limit}
use Rattle.calculus.specs.Envelopes.Envelope.{windows}
use Rattle.calculus.specs.Regulators.Clipper.{admitted}
use Rattle.calculus.specs.Regulators.Regulator.{departed, held}
use Rattle.calculus.specs.Regulators.Trace.{arrivals}
use Rattle.calculus.specs.Regulators.Rows.{envelope_of}
use Rattle.calculus.proofs.Regulators.Regulator.{lost-slot}
use Rattle.refusals.specs.Table.{last_window}
use Rattle.refusals.specs.Limits.{delay_limit, buffer_limit}
use Rattle.regulator.specs.Regulator.{settings_from, fresh_regulator, next_admitted_of, next_departed_of, record_of, advanced}
use Rattle.calls.specs.CallsRun.{row_after}
use Rattle.regulator.specs.LiveRun.{live_regulator}
use Rattle.regulator.specs.declared.regulator.Regulator.{Regulator}
use Rattle.live_step.specs.Answer.{Counted}
use Rattle.refusals.proofs.AcceptedSettings.{Accepted, envelope_closed}
use Rattle.regulator.proofs.FollowsTheorem.{Follows, fresh_follows, step-admits, step-departs, step_follows}
use Rattle.regulator.proofs.SlotAnswers.{slot_refused, slot_counted}
use Rattle.calls.proofs.AcceptedCalls.{slot_fine}
use Rattle.calls.proofs.CallRecords.{TakesSlots, FollowsTrace}
use Rattle.calls.proofs.CallsRun.{Starts}

-- Whatever the regulator: a refused slot leaves it, an accepted one is counted and raises the peaks.
pub regulator_takes : TakesSlots live_regulator
unfolding live_regulator advanced
regulator_takes =
    record {
      refuses = λ r n k e. let whole = slot_refused r n k e in (rw whole, rw whole);
      counts = λ r n e. let whole = slot_counted r n e in (record_of r n, rw whole, rw whole (add-one r.slots.0), rw whole, rw whole);
    }

module _ (table : List ℕ) (d q : ℕ) (ok : Accepted table (delay_limit d) (buffer_limit q)) where
  abbrev D : Limit
  D = delay_limit d

  abbrev Q : Limit
  Q = buffer_limit q

  abbrev F : ℕ → ℕ → ℕ
  F = windows (envelope_of table)

  -- a regulator that t accepted slots of the trace w gave
  pub record Reached (w : List ℕ) (t : ℕ) (r : Regulator) : Type 0 where
    pub settled : r.settings ≡ settings_from table d q
    pub taken : r.slots.0 ≡ t
    pub follows : Follows table D Q (arrivals w) t r.admitted.0 r.row

  module _ (w : List ℕ) (few : (k : ℕ) → get_or w k 0 ≤ 1000000) where
    abbrev X : ℕ → ℕ
    X = admitted F D Q (arrivals w)

    abbrev Y : ℕ → ℕ
    Y = departed F D Q (arrivals w)

    arrivals_few : (k : ℕ) → arrivals w k ≤ 1000000
    unfolding arrivals
    arrivals_few zero = omega arith
    arrivals_few (suc k) = few k

    module _ (t : ℕ) (early : t < 1000000) (r : Regulator) (reached : Reached w t r) where
      L : min (last_window table) 64 ≡ last_window table
      L = omega (arith, ok.tabled.last_to)

      next-admitted : next_admitted_of r (get_or w t 0) ≡ X (suc t)
      unfolding next_admitted_of settings_from arrivals
      next-admitted = rw (reached.settled, L) (step-admits table D Q ok (arrivals w) t (λ k p. arrivals_few k) early r.admitted.0 r.row reached.follows)

      next-departed : next_departed_of r (get_or w t 0) ≡ Y (suc t)
      unfolding next_departed_of next_admitted_of settings_from arrivals
      next-departed = rw (reached.settled, L) (step-departs table D Q ok (arrivals w) t (λ k p. arrivals_few k) early r.admitted.0 r.row reached.follows)

      -- The regulator advanced by slot t+1 of the trace is the one that t+1 slots give.
      next_reached : Reached w (suc t) (advanced r (get_or w t 0))
      unfolding advanced next_admitted_of next_departed_of settings_from arrivals
      next_reached =
          record {
            settled = reached.settled;
            taken = rw reached.taken (add-one t);
            follows = rw (reached.settled, L) (step_follows table D Q ok (arrivals w) t (λ k p. arrivals_few k) early r.admitted.0 r.row reached.follows);
          }

      before-departed : get_or r.row 0 0 ≡ Y t
      before-departed =
          let e : t - 0 ≡ t = omega arith in
          reached.follows.past 0 ok.tabled.last_from ∙ ap Y e

      -- The record answered is theorem 5.1's.
      next_record : record_of r (get_or w t 0) ≡ row_after F D Q (arrivals w) t
      unfolding record_of row_after held arrivals
      next_record =
          rw (next-departed, next-admitted, before-departed, reached.follows.total)
          (ap (λ (n : ℕ). record { held_before = X t - Y t; admitted = X (suc t) - X t; dropped = n; departed = Y (suc t) - Y t }) (lost-slot F (envelope_closed table d q ok) D Q (arrivals w) t))

    pub regulator_follows : FollowsTrace live_regulator F D Q w (Reached w)
    unfolding live_regulator
    regulator_follows =
        record {
          taken = λ t r reached. reached.taken;
          total = λ t r reached. reached.follows.total;
          goes_on = λ t r early reached.
              let whole = slot_counted r (get_or w t 0) (slot_fine (get_or w t 0) r.slots.0 (few t) (omega (arith, reached.taken))) in
              rw whole (ap Counted (next_record t early r reached), next_reached t early r reached);
        }

  -- A fresh regulator is the one that no slot gave.
  pub fresh_starts : Starts live_regulator (envelope_of table) D Q (fresh_regulator table d q) Reached
  unfolding live_regulator fresh_regulator
  fresh_starts =
      record {
        fresh = refl;
        form_fresh = refl;
        bench_fresh = refl;
        first = λ w. record { settled = refl; taken = refl; follows = fresh_follows table D Q ok (arrivals w) };
        follows = regulator_follows;
      }
