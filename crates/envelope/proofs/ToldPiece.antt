-- What the sums tell of a window's piece is the piece, whatever the sums are.
use mathlib.Core.Path.{◌≡◌, refl}
use mathlib.Core.Bool.{Bool, true, false}
use Prim.Native.Nat.{ℕ, ◌<◌}
use native.Mathlib.Decide.{dec_le}
use native.Mathlib.Omega.{arith}
use lib.Dec.{ltb, eqb}
use borrow.Author.Tests.{lt-ltb, ltb-true, eq-eqb, ne_eqb, eqb-true, eqb-false}
use Rattle.orders.specs.Refusal.{pick}
use Rattle.envelope.specs.ClosureRow.{Told, told_by}

-- no sum between makes f
abbrev pub NoneBetween : ℕ → ℕ → Type 0
NoneBetween f between = f < between

-- The piece is window 1 where the sum with it makes f, and else window m where no sum between does: so what is told is the piece.
pub told_is : (first between f m piece : ℕ) → (first ≡ f → 1 ≡ piece) → ((first ≡ f → ⊥) → NoneBetween f between → m ≡ piece)
    → Told (told_by first between f m) piece
unfolding told_by pick
told_is first between f m piece one last = by (eqb first f) (ltb f between) (eqb-true first f) (eqb-false first f) (ltb-true f between)
  where
    by : (same none : Bool) → (same ≡ true → first ≡ f) → (same ≡ false → first ≡ f → ⊥) → (none ≡ true → NoneBetween f between)
        → Told (pick same 1 (pick none m 0)) piece
    by true none t o l given = one (t refl)
    by false true t o l given = last (o refl) (l refl)
    by false false t o l given = absurd (given refl)

-- What is told is window 1 where the sum with it makes f ..
pub told-is-first : (first between f m piece : ℕ) → Told (told_by first between f m) piece → first ≡ f → 1 ≡ piece
unfolding told_by pick
told-is-first first between f m piece told e = (rw (eq-eqb first f e) at told) (λ none. omega arith)

-- .. and else the last window where f is less than the sums between.
pub told-is-last : (first between f m piece : ℕ) → Told (told_by first between f m) piece → (first ≡ f → ⊥) → NoneBetween f between → (m ≡ 0 → m ≡ piece) → m ≡ piece
unfolding told_by pick
told-is-last first between f m piece told other less none =
    elim (dec_le 1 m) [
      | yes p ↦ (rw (ne_eqb first f other, lt-ltb f between less) at told) (λ e. omega arith)
      | no p ↦ none (omega arith)
    ]
