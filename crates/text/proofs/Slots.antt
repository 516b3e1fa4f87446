-- The lines of the slots, put one after the other: one more turn keeps what holds.
use mathlib.Core.Path.{◌≡◌, refl}
use mathlib.Core.List.{List}
use Prim.Native.Nat.{ℕ, ◌+◌, ◌*◌, ◌^◌, ◌≤◌, ◌<◌}
use native.Mathlib.Omega.{arith}
use native.Mathlib.Numerals.{add-one}
use lib.ListN.{length, length-append}
use Rattle.calculus.specs.Regulators.Trace.{sum_to}
use Rattle.text.specs.Digits.{digits}
use Rattle.text.specs.declared.line.Counts.{Counts}
use Rattle.text.specs.Counts.{fields, CountsAt}
use Rattle.text.specs.Lines.{line, held_after, slot_line, slot_lines}
use Rattle.text.specs.Put.{Put}
use Rattle.text.proofs.Lines.{line_fits}
use Rattle.text.proofs.Put.{put_none, put_then}

-- the lines of slots 1 to t are put, in at most 64 bytes each, and the totals are carried along
pub record SlotsPut (arrived admitted dropped departed before : List ℕ) (at : ℕ) (after : List ℕ) (x y place t : ℕ) : Type 0 where
  pub admitted_total : x ≡ sum_to admitted t
  pub departed_total : y ≡ sum_to departed t
  pub admitted_fits : x ≤ 2 ^ 32 * t
  pub departed_fits : y ≤ 2 ^ 32 * t
  pub short : length (slot_lines arrived admitted dropped departed t) ≤ 64 * t
  pub put : Put before at (slot_lines arrived admitted dropped departed t) after place

module _ (arrived admitted dropped departed before : List ℕ) (at : ℕ) where
  pub slots_none : at ≤ length before → SlotsPut arrived admitted dropped departed before at before 0 0 at 0
  unfolding sum_to slot_lines
  slots_none p =
      record { admitted_total = refl; departed_total = refl; admitted_fits = omega arith; departed_fits = omega arith; short = omega arith; put = put_none before at p }

  module _ {between : List ℕ} {x y place t : ℕ} {counts : Counts}
      (sofar : SlotsPut arrived admitted dropped departed before at between x y place t) (these : CountsAt arrived admitted dropped departed t x y counts) where
    -- The next line has at most 64 bytes.
    pub slots_room_lem : t < 4096 → length (line (digits (t + 1)) (fields counts)) ≤ 64
    slots_room_lem p =
        line_fits (t + 1) _ _ _ _ _ (omega arith) these.arrives_fits these.admits_fits these.drops_fits these.departs_fits
        (omega (arith, these.holds, these.admits_fits, sofar.admitted_fits))

    -- Its numbers are those of the slot.
    slots-line : slot_line arrived admitted dropped departed t ≡ line (digits (t + 1)) (fields counts)
    unfolding slot_line held_after sum_to
    slots-line = rw (add-one, these.holds, sofar.admitted_total, sofar.departed_total, these.arrives, these.admits, these.drops, these.departs)

    -- One more turn.
    pub slots_more : {after : List ℕ} {r : ℕ} → t < 4096 → Put between place (line (digits (t + 1)) (fields counts)) after r
        → SlotsPut arrived admitted dropped departed before at after (x + counts.admitted) (y + counts.departed) r (t + 1)
    unfolding sum_to slot_lines
    slots_more p q =
        record {
          admitted_total = rw add-one (omega (arith, sofar.admitted_total, these.admits));
          departed_total = rw add-one (omega (arith, sofar.departed_total, these.departs));
          admitted_fits = omega (arith, sofar.admitted_fits, these.admits_fits);
          departed_fits = omega (arith, sofar.departed_fits, these.departs_fits);
          short = rw (add-one t, slots-line) (simp length-append (omega (arith, sofar.short, slots_room_lem p)));
          put = rw (add-one t, slots-line) (put_then sofar.put q);
        }
