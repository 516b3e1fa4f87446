-- What is printed where the text fits, and where it does not; the line of totals from the sums.
use mathlib.Core.Path.{◌≡◌, refl, ap, ◌∙◌}
use mathlib.Core.Bool.{Bool, true, false, ◌&&◌}
use mathlib.Core.List.{List, [], ◌∷◌}
use Prim.Native.Nat.{ℕ, zero, suc, ◌+◌, ◌-◌, ◌*◌, ◌≤◌, ◌<◌}
use native.Mathlib.Omega.{arith}
use lib.ListN.{length, get_or, take}
use lib.Seq.{take-suc, take_all}
use Rattle.std.proofs.Common.{sum}
use Rattle.std.proofs.lemmas.List.Sums.{sum_by_push}
use borrow.Author.Tests.{le-leb, lt-leb, eq-eqb, leb-true, eqb-true}
use Rattle.calculus.proofs.Numbers.Distinct.{zero_one}
use Rattle.calculus.specs.Regulators.Trace.{sum_to}
use Rattle.text.specs.Lines.{bytes, line, held_after, total_line, table_text, refused_text}
use Rattle.text.specs.Printed.{only_if, Columns, table_fits, table_printed, refusal_fits, refused_printed}

-- A refusal is printed in 32 bytes or more, and nothing in fewer.
pub refused_fits : (number room : ℕ) → 32 ≤ room → refused_printed number room ≡ refused_text number
unfolding refused_printed refusal_fits only_if
refused_fits number room p = rw (le-leb 32 room p)

pub refused_left_out : (number room : ℕ) → room < 32 → refused_printed number room ≡ []
unfolding refused_printed refusal_fits only_if
refused_left_out number room p = rw (lt-leb 32 room p)

both : (p q : Bool) → (p && q) ≡ true → (p ≡ true) × (q ≡ true)
both true q e = (refl, e)
both false q e = absurd (zero_one cc)

module _ (arrived admitted dropped departed : List ℕ) (room : ℕ) where
  -- A table that fits has four lists of one length, and room.
  pub table_columns : table_fits arrived admitted dropped departed room ≡ true → Columns arrived admitted dropped departed × (64 * length arrived + 128 ≤ room)
  unfolding table_fits
  table_columns e =
      let r = both _ _ e in
      let s = both _ _ r.0 in
      let d = both _ _ s.0 in
      let l = both _ _ d.0 in (
        record {
          slots = leb-true _ _ s.1;
          admitted_slots = eqb-true _ _ l.0;
          dropped_slots = eqb-true _ _ l.1;
          departed_slots = eqb-true _ _ d.1;
        },
        leb-true _ _ r.1,
      )

  -- Four lists of one length fit where there is room.
  pub columns_fit : Columns arrived admitted dropped departed → 64 * length arrived + 128 ≤ room → table_fits arrived admitted dropped departed room ≡ true
  unfolding table_fits
  columns_fit c p =
      rw (eq-eqb _ _ c.admitted_slots, eq-eqb _ _ c.dropped_slots, eq-eqb _ _ c.departed_slots, le-leb _ 4096 c.slots, le-leb _ room p)

  -- A table that fits is printed, and of another nothing is.
  pub table_fits_lem : table_fits arrived admitted dropped departed room ≡ true → table_printed arrived admitted dropped departed room ≡ table_text arrived admitted dropped departed
  unfolding table_printed only_if
  table_fits_lem e = rw e

  pub table_printed_lem : Columns arrived admitted dropped departed → 64 * length arrived + 128 ≤ room → table_printed arrived admitted dropped departed room ≡ table_text arrived admitted dropped departed
  table_printed_lem c p = table_fits_lem (columns_fit c p)

  pub table_left_out : table_fits arrived admitted dropped departed room ≡ false → table_printed arrived admitted dropped departed room ≡ []
  unfolding table_printed only_if
  table_left_out e = rw e

-- All of a list's numbers are added up.
sum_to-taken : (l : List ℕ) (t : ℕ) → t ≤ length l → sum_to l t ≡ sum (take t l)
unfolding sum_to
sum_to-taken l zero p = refl
sum_to-taken l (suc t) p = rw (take-suc l t 0 p) (simp sum_by_push (ap (λ (n : ℕ). n + get_or l t 0) (sum_to-taken l t (omega arith))))

pub sum_to-all : (l : List ℕ) → sum_to l (length l) ≡ sum l
sum_to-all l = sum_to-taken l (length l) (omega arith) ∙ ap sum (take_all (length l) l (omega arith))

-- The line of totals has the sums of the four lists and what is held at the end.
pub totals-line : (arrived admitted dropped departed : List ℕ) → Columns arrived admitted dropped departed → (a b c d h : ℕ)
    → a ≡ sum_to arrived (length arrived) → b ≡ sum_to admitted (length admitted) → c ≡ sum_to dropped (length dropped) → d ≡ sum_to departed (length departed) → h ≡ b - d
    → total_line arrived admitted dropped departed (length arrived) ≡ line (bytes "total") (a ∷ b ∷ c ∷ d ∷ h ∷ [])
unfolding total_line held_after
totals-line arrived admitted dropped departed columns a b c d h pa pb pc pd ph =
    rw (ph, pa, pb, pc, pd, columns.admitted_slots, columns.dropped_slots, columns.departed_slots)
