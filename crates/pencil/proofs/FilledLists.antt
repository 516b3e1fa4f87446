-- Slot by slot the pencil's lists are filled with the counts between its totals.
use mathlib.Core.Path.{◌≡◌, refl, sym, ap, ap₂, ◌∙◌}
use mathlib.Core.List.{List}
use Prim.Native.Nat.{ℕ, suc, ◌+◌, ◌-◌, ◌≤◌, ◌<◌}
use native.Mathlib.Omega.{arith}
use native.Mathlib.Numerals.{add-one}
use lib.ListN.{length, get_or, take, set, length-set}
use Rattle.calculus.specs.Numbers.Limit.{Limit, delay_limit, buffer_limit}
use Rattle.calculus.specs.Numbers.Lists.{list_of}
use Rattle.calculus.specs.Envelopes.Envelope.{windows, ClosedEnvelope}
use Rattle.calculus.specs.Regulators.Trace.{arrivals, slot_counts}
use Rattle.calculus.specs.Regulators.Rows.{envelope_of, admitted_by, lost_by, departed_by, admitted_row, dropped_row, departed_row}
use Rattle.calculus.proofs.Numbers.Lists.{list_of_filled, list_of_full}
use Rattle.calculus.proofs.Envelopes.Envelope.{closure_envelope}
use Rattle.calculus.proofs.Regulators.Regulator.{admitted-zero, admitted-arrivals, admitted_rises, departed-zero, departed_rises, lost-slot}
use Rattle.pencil_calculus.proofs.Pencil.{pencil-admitted_row, pencil-dropped_row, pencil-departed_row}
use Rattle.refusals.proofs.TableJudged.{table_given, table-accepted}
use Rattle.pencil.specs.PencilWork.{Working, Rows}

-- the totals of slot t, and the lists filled up to it
pub record Listing (table : List ℕ) (d q : Limit) (trace : List ℕ) (t x y : ℕ) (ins drops outs : List ℕ) : Type 0 where
  pub within : t ≤ length trace
  pub total : x ≡ admitted_by table d q trace t
  pub gone : y ≡ departed_by table d q trace t
  pub long_ins : length ins ≡ length trace
  pub long_drops : length drops ≡ length trace
  pub long_outs : length outs ≡ length trace
  pub admits : take t ins ≡ list_of (λ k. admitted_by table d q trace (suc k) - admitted_by table d q trace k) t
  pub dropping : take t drops ≡ list_of (λ k. lost_by table d q trace (suc k) - lost_by table d q trace k) t
  pub departs : take t outs ≡ list_of (λ k. departed_by table d q trace (suc k) - departed_by table d q trace k) t

module _ (table near : List ℕ) (delay buffer : ℕ) (trace : List ℕ) (ok : Working table near delay buffer trace (length trace)) where
  abbrev d : Limit
  d = delay_limit delay

  abbrev q : Limit
  q = buffer_limit buffer

  abbrev F : ℕ → ℕ → ℕ
  F = windows (envelope_of table)

  abbrev X : ℕ → ℕ
  X = admitted_by table d q trace

  abbrev Y : ℕ → ℕ
  Y = departed_by table d q trace

  closed : ClosedEnvelope F
  unfolding envelope_of
  closed = closure_envelope _ _ (table_given table (table-accepted table ok.tabled))

  pub listing-first : (ins drops outs : List ℕ) → length ins ≡ length trace → length drops ≡ length trace → length outs ≡ length trace
      → Listing table d q trace 0 0 0 ins drops outs
  unfolding list_of admitted_by departed_by
  listing-first ins drops outs l1 l2 l3 =
      record {
        within = omega arith;
        total = sym (admitted-zero F closed d q (arrivals trace));
        gone = sym (departed-zero F closed d q (arrivals trace));
        long_ins = l1;
        long_drops = l2;
        long_outs = l3;
        admits = refl;
        dropping = refl;
        departs = refl;
      }

  module _ (t x y : ℕ) (ins drops outs : List ℕ) (listing : Listing table d q trace t x y ins drops outs) (total left n : ℕ)
      (e1 : total ≡ X (t + 1)) (e2 : left ≡ Y (t + 1)) (arrives : n ≡ get_or trace t 0) where
    now : total ≡ X (suc t)
    now = e1 ∙ ap X (add-one t)

    then : left ≡ Y (suc t)
    then = e2 ∙ ap Y (add-one t)

    arrives_now : n ≡ arrivals trace (suc t)
    unfolding arrivals
    arrives_now = arrives

    -- No count of the slot falls below 0.
    pub listing_takes : x ≤ total
    unfolding admitted_by
    listing_takes = omega (arith, listing.total, now, admitted_rises F closed d q (arrivals trace) t (suc t) (omega arith))

    pub listing-drops : total - x ≤ n
    unfolding admitted_by
    listing-drops = omega (arith, listing.total, now, admitted-arrivals F closed d q (arrivals trace) t, arrives_now)

    pub listing-leaves : y ≤ left
    unfolding departed_by
    listing-leaves = omega (arith, listing.gone, then, departed_rises F closed d q (arrivals trace) t (suc t) (omega arith))

    lost_now : n - (total - x) ≡ lost_by table d q trace (suc t) - lost_by table d q trace t
    unfolding lost_by admitted_by
    lost_now = ap₂ ◌-◌ arrives_now (ap₂ ◌-◌ now listing.total) ∙ lost-slot F closed d q (arrivals trace) t

    -- A slot more.
    pub listing_next : t < length trace → Listing table d q trace (t + 1) total left (set ins t (total - x)) (set drops t (n - (total - x))) (set outs t (left - y))
    listing_next inside =
        record {
          within = omega arith;
          total = e1;
          gone = e2;
          long_ins = length-set ins t _ ∙ listing.long_ins;
          long_drops = length-set drops t _ ∙ listing.long_drops;
          long_outs = length-set outs t _ ∙ listing.long_outs;
          admits = list_of_filled _ ins t (total - x) (omega (arith, listing.long_ins)) listing.admits (ap₂ ◌-◌ now listing.total);
          dropping = list_of_filled _ drops t (n - (total - x)) (omega (arith, listing.long_drops)) listing.dropping lost_now;
          departs = list_of_filled _ outs t (left - y) (omega (arith, listing.long_outs)) listing.departs (ap₂ ◌-◌ then listing.gone);
        }

  -- After the last slot the lists are the pencil's rows.
  pub listing-last : (t x y : ℕ) (ins drops outs : List ℕ) → Listing table d q trace t x y ins drops outs → length trace ≤ t → Rows table d q trace ins drops outs
  unfolding slot_counts admitted_row dropped_row departed_row
  listing-last t x y ins drops outs listing p =
      let given = table_given table (table-accepted table ok.tabled) in
      record {
        admits = list_of_full _ ins (length trace) t listing.within p listing.long_ins listing.admits ∙ sym (pencil-admitted_row table given d q trace);
        dropped = list_of_full _ drops (length trace) t listing.within p listing.long_drops listing.dropping ∙ sym (pencil-dropped_row table given d q trace);
        departs = list_of_full _ outs (length trace) t listing.within p listing.long_outs listing.departs ∙ sym (pencil-departed_row table given d q trace);
      }
