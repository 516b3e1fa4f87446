-- What is handed over of an accepted file, and what is left of a refused one.
use mathlib.Core.Path.{◌≡◌, refl, ap₂, ◌∙◌}
use mathlib.Core.List.{List, []}
use Prim.Native.Nat.{ℕ, zero, suc, ◌+◌, ◌-◌, ◌*◌}
use native.Mathlib.Omega.{arith}
use lib.ListN.{length, take, drop}
use borrow.Author.Tests.{eq-eqb, ne_eqb}
use Rattle.orders.specs.Refusal.{pick}
use Rattle.stream.specs.Format.{last, bursts}
use Rattle.stream.specs.Refusals.{file_refusal}
use Rattle.stream.specs.Handed.{handed, counts_from, part_by, counts_part, place_by, counts_place}

module _ (number : ℕ) (held before : List ℕ) where
  -- A list lent to a refused file is as it was,
  pub handed_refused : (number ≡ 0 → ⊥) → before ≡ handed number held before
  unfolding handed pick
  handed_refused p = rw (ne_eqb number 0 p)

  -- and so is one of another length;
  pub handed_other : number ≡ 0 → (length before ≡ length held → ⊥) → before ≡ handed number held before
  unfolding handed pick
  handed_other e p = rw (eq-eqb number 0 e, ne_eqb (length before) (length held) p)

  -- any other holds what the file holds.
  pub handed_over : number ≡ 0 → length before ≡ length held → held ≡ handed number held before
  unfolding handed pick
  handed_over e p = rw (eq-eqb number 0 e, eq-eqb (length before) (length held) p)

-- A refused file's part is empty and lies at its start.
pub part_refused : (file : List ℕ) (place : ℕ × ℕ) → (file_refusal file ≡ 0 → ⊥)
    → ([] ≡ counts_part file) × ((place.0, 0 + place.1) ≡ counts_place file place)
unfolding counts_part part_by counts_place place_by
part_refused file place refused = by (file_refusal file) refl
  where
    by : (k : ℕ) → file_refusal file ≡ k → ([] ≡ part_by (file_refusal file) file) × ((place.0, 0 + place.1) ≡ place_by (file_refusal file) file place)
    by zero e = absurd (refused e)
    by (suc k) e = let start : 0 + place.1 ≡ place.1 = omega arith in (rw e, rw (start, e))

-- An accepted file's part is the counts' bytes and lies where they stand.
pub part-accepted : (file : List ℕ) (place : ℕ × ℕ) (l m : ℕ) → file_refusal file ≡ 0 → l ≡ last file → m ≡ bursts file
    → (take (counts_from l m + 4 * m - counts_from l m) (drop (counts_from l m) file) ≡ counts_part file)
    × ((place.0, counts_from l m + place.1) ≡ counts_place file place)
unfolding counts_part part_by counts_place place_by
part-accepted file place l m e p q =
    let long : counts_from l m + 4 * m - counts_from l m ≡ 4 * m = omega arith in
    (rw (long, e, p, q), ap₂ (λ (l m : ℕ). (place.0, counts_from l m + place.1)) p q ∙ rw e)
