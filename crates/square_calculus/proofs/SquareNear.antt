-- Two squares that agree at the slots that a run looks at give the same rows: the rest of a square may be anything.
use mathlib.Core.Path.{◌≡◌, refl, sym, ◌∙◌}
use mathlib.Core.List.{List}
use Prim.Native.Nat.{ℕ, ◌+◌, ◌≤◌, ◌<◌}
use native.Mathlib.Omega.{arith}
use lib.ListN.{length}
use Rattle.calculus.proofs.Numbers.Distinct.{zero_one}
use Rattle.calculus.specs.Numbers.Limit.{Limit, none, at_most}
use Rattle.calculus.specs.Regulators.Trace.{arrivals}
use Rattle.square_calculus.specs.Square.{last_slot, square_entry, square_envelope}
use Rattle.square_calculus.specs.SquareRows.{closed_envelope, square_admitted_row, square_dropped_row, square_departed_row, Reached, last_looked}
use Rattle.calculus.proofs.Regulators.Trace.{slot_counts_cong}
use Rattle.square_calculus.proofs.Square.{closure_of_cong}
use Rattle.square_calculus.proofs.SquareRows.{admitted-near, departed-near, lost-near, envelope_at_lem}

-- It looks at its own slots, as far as the delay limit from each, and not beyond the square.
looked-slots : (d : Limit) (T : ℕ) → T ≤ last_looked d T
unfolding last_looked
looked-slots none T = omega arith
looked-slots (at_most n) T = omega arith

looked-ahead : (d : Limit) (T n : ℕ) → d ≡ at_most n → T + n ≤ last_looked d T
unfolding last_looked
looked-ahead none T n e = absurd (zero_one cc)
looked-ahead (at_most m) T n e = let z : m ≡ n = cc in omega arith

looked_reached : (d : Limit) (T : ℕ) → Reached d T → last_looked d T ≤ last_slot
unfolding last_looked
looked_reached none T reached = reached.slots
looked_reached (at_most n) T reached = reached.delayed n refl

module _ (square other : List (List ℕ)) (d q : Limit) (trace : List ℕ) (reached : Reached d (length trace))
    (alike : (s t : ℕ) → s < t → t ≤ last_looked d (length trace) → square_entry square s t ≡ square_entry other s t) where
  abbrev T : ℕ
  T = length trace

  closed_alike : (s t : ℕ) → t ≤ last_looked d T → closed_envelope square s t ≡ closed_envelope other s t
  unfolding closed_envelope
  closed_alike s t p =
      let inside : last_looked d T ≤ last_slot = looked_reached d T reached in
      closure_of_cong (square_envelope square) (square_envelope other) s t
      (λ i j ij jt. envelope_at_lem square i j (omega arith) (omega arith) ∙ alike i j ij (omega arith) ∙ sym (envelope_at_lem other i j (omega arith) (omega arith)))

  near : (s t : ℕ) → s ≤ t → t ≤ T → closed_envelope square s t ≡ closed_envelope other s t
  near s t st p = closed_alike s t (omega (arith, looked-slots d T))

  later : (n s t : ℕ) → d ≡ at_most n → s ≤ t → t ≤ T + n → closed_envelope square s t ≡ closed_envelope other s t
  later n s t e st p = closed_alike s t (omega (arith, looked-ahead d T n e))

  pub alike-admitted_row : square_admitted_row square d q trace ≡ square_admitted_row other d q trace
  unfolding square_admitted_row
  alike-admitted_row = slot_counts_cong _ _ T (admitted-near _ _ d q (arrivals trace) T near later)

  pub alike-dropped_row : square_dropped_row square d q trace ≡ square_dropped_row other d q trace
  unfolding square_dropped_row
  alike-dropped_row = slot_counts_cong _ _ T (lost-near _ _ d q (arrivals trace) T near later)

  pub alike-departed_row : square_departed_row square d q trace ≡ square_departed_row other d q trace
  unfolding square_departed_row
  alike-departed_row = slot_counts_cong _ _ T (departed-near _ _ d q (arrivals trace) T near later)
