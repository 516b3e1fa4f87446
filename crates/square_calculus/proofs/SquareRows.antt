-- Rows and losses with an envelope that varies with time: demand 3 for pairs that keep F, and the square of a closed table.
use mathlib.Core.Path.{◌≡◌, refl, sym, ap, ap₂, ◌∙◌}
use mathlib.Core.List.{List, []}
use Prim.Native.Nat.{ℕ, zero, suc, ◌+◌, ◌-◌, ◌≤◌, ◌<◌, min}
use native.Mathlib.Decide.{dec_le}
use native.Mathlib.Omega.{arith}
use native.Mathlib.Numerals.{add-one}
use lib.ListN.{length, get_or, length-append, get_or-append}
use lib.Seq.{get_or_at, ext_get_or}
use Rattle.calculus.specs.Numbers.Limit.{Limit, at_most, smaller}
use Rattle.calculus.specs.Envelopes.Closure.{Table}
use Rattle.calculus.specs.Envelopes.Envelope.{windows, ClosedEnvelope}
use Rattle.calculus.specs.Regulators.Clipper.{arrived, delay_bound, buffer_bound, clipper_window, clipper_envelope, admitted}
use Rattle.calculus.specs.Regulators.Regulator.{departed, lost}
use Rattle.calculus.specs.Losses.Permitted.{Permitted}
use Rattle.calculus.specs.Numbers.Lists.{list_of}
use Rattle.calculus.specs.Regulators.Trace.{arrivals, slot_counts}
use Rattle.calculus.specs.Regulators.Rows.{envelope_of, admitted_by, lost_by, departed_by, admitted_row, dropped_row, departed_row}
use Rattle.square_calculus.specs.Square.{closure_of, last_slot, square_entry, Square, square_envelope, square_rows, square_of, closed_square}
use Rattle.square_calculus.specs.SquareRows.{closed_envelope, square_admitted_row, square_dropped_row, square_departed_row, Reached, SquareLowestLoss}
use Rattle.calculus.proofs.Numbers.Limit.{map_limit_cong}
use Rattle.calculus.proofs.Numbers.Lists.{list_of_at}
use Rattle.calculus.proofs.Regulators.Trace.{slot_counts_cong}
use Rattle.calculus.proofs.Envelopes.Envelope.{closure_envelope}
use Rattle.calculus.proofs.Regulators.Clipper.{clipped_cong}
use Rattle.calculus.proofs.Regulators.Convolution.{convolution_cong}
use Rattle.calculus.proofs.Losses.LossCurve.{counts-lowest, lowest_among_fewer}
use Rattle.square_calculus.proofs.Square.{closure_of-zero, closure_of_under, closure_of_closed, closure_of_own, closure_of_cong, permitted-closure_of, closure_of_permitted}

-- Totals through slot T look at the envelope up to slot T alone, or T + d where there is a delay limit.
module _ (F G : ℕ → ℕ → ℕ) (d q : Limit) (a : ℕ → ℕ) (T : ℕ) (same : (s t : ℕ) → s ≤ t → t ≤ T → F s t ≡ G s t)
    (later : (n s t : ℕ) → d ≡ at_most n → s ≤ t → t ≤ T + n → F s t ≡ G s t) where
  pub admitted-near : (t : ℕ) → t ≤ T → admitted F d q a t ≡ admitted G d q a t
  unfolding admitted clipper_envelope clipper_window delay_bound buffer_bound
  admitted-near t p =
      clipped_cong _ _ a a t
      (λ s r sr rt.
      ap₂ smaller
      (map_limit_cong _ _ d (λ n e. later n s (r + n) e (omega arith) (omega arith)))
      (map_limit_cong _ _ q (λ n e. ap (λ (k : ℕ). k + n) (same s (r - 1) (omega arith) (omega arith)))))
      (λ k r. refl)

  pub departed-near : (t : ℕ) → t ≤ T → departed F d q a t ≡ departed G d q a t
  unfolding departed
  departed-near t p = convolution_cong _ _ F G t (λ s r. admitted-near s (omega arith)) (λ s r. same s t r p)

  pub lost-near : (t : ℕ) → t ≤ T → lost F d q a t ≡ lost G d q a t
  unfolding lost
  lost-near t p = ap (λ (n : ℕ). arrived a t - n) (admitted-near t p)

-- The square of an envelope holds it.
square_rows_long : (F : ℕ → ℕ → ℕ) (n : ℕ) → length (square_rows F n) ≡ n
unfolding square_rows
square_rows_long F zero = refl
square_rows_long F (suc n) = length-append (square_rows F n) _ ∙ ap (λ (k : ℕ). k + 1) (square_rows_long F n) ∙ add-one n

square_rows_at : (F : ℕ → ℕ → ℕ) (n s : ℕ) → s < n → get_or (square_rows F n) s [] ≡ list_of (F s) (suc last_slot)
unfolding square_rows
square_rows_at F zero s p = absurd (omega arith)
square_rows_at F (suc n) s p =
    let l : length (square_rows F n) ≡ n = square_rows_long F n in
    elim (dec_le (suc s) n) [
      | yes q ↦ get_or-append (square_rows F n) _ [] s (omega arith) ∙ square_rows_at F n s q
      | no q ↦ let e : s ≡ n = omega arith in rw e (get_or_at (square_rows F n) _ [] [] n l)
    ]

pub square_of_at : (F : ℕ → ℕ → ℕ) (s t : ℕ) → s ≤ last_slot → t ≤ last_slot → square_entry (square_of F) s t ≡ F s t
unfolding square_of square_entry
square_of_at F s t p q = ap (λ (row : List ℕ). get_or row t 0) (square_rows_at F (suc last_slot) s (omega arith)) ∙ list_of_at (F s) (suc last_slot) t (omega arith)

-- And no other list of 33 rows does.
pub square_of_only : (F : ℕ → ℕ → ℕ) (square : List (List ℕ)) → length square ≡ suc last_slot
    → ((s : ℕ) → s ≤ last_slot → get_or square s [] ≡ list_of (F s) (suc last_slot)) → square ≡ square_of F
unfolding square_of
square_of_only F square long same =
    ext_get_or [] square (square_rows F (suc last_slot)) (long ∙ sym (square_rows_long F (suc last_slot)))
    (λ s p. same s (omega (arith, long)) ∙ sym (square_rows_at F (suc last_slot) s (omega (arith, long))))

-- F at a place of the square.
pub envelope_at_lem : (square : List (List ℕ)) (s t : ℕ) → s ≤ last_slot → t ≤ last_slot → square_envelope square s t ≡ square_entry square s t
unfolding square_envelope
envelope_at_lem square s t p q =
    let row : min s last_slot ≡ s = omega arith in
    let slot : min t last_slot ≡ t = omega arith in
    ap₂ (square_entry square) row slot

-- Totals of traces that the square reaches look at it alone.
module _ (F G : ℕ → ℕ → ℕ) (same : (s t : ℕ) → s ≤ t → t ≤ last_slot → F s t ≡ G s t) (d q : Limit) (a : ℕ → ℕ) (T : ℕ) (reached : Reached d T) where
  pub admitted_reached : (t : ℕ) → t ≤ T → admitted F d q a t ≡ admitted G d q a t
  admitted_reached =
      admitted-near F G d q a T (λ s t p r. same s t p (omega (arith, reached.slots))) (λ n s t e p r. same s t p (omega (arith, reached.delayed n e)))

  pub departed_reached : (t : ℕ) → t ≤ T → departed F d q a t ≡ departed G d q a t
  departed_reached =
      departed-near F G d q a T (λ s t p r. same s t p (omega (arith, reached.slots))) (λ n s t e p r. same s t p (omega (arith, reached.delayed n e)))

  pub lost_reached : (t : ℕ) → t ≤ T → lost F d q a t ≡ lost G d q a t
  lost_reached =
      lost-near F G d q a T (λ s t p r. same s t p (omega (arith, reached.slots))) (λ n s t e p r. same s t p (omega (arith, reached.delayed n e)))

module _ (square : List (List ℕ)) (ok : Square square) where
  -- An accepted square's F does not fall, also beyond the square.
  square_rises : (s t r : ℕ) → t ≤ r → square_envelope square s t ≤ square_envelope square s r
  unfolding square_envelope
  square_rises s t r p =
      elim (dec_le (min s last_slot) (min t last_slot)) [
        | yes q ↦ ok.rises (min s last_slot) (min t last_slot) (min r last_slot) q (omega arith) (omega arith)
        | no q ↦ omega (arith, ok.starts (min s last_slot) (min t last_slot) (omega arith) (omega arith))
      ]

  -- Its closure is a closed envelope.
  pub square_closed : ClosedEnvelope (closed_envelope square)
  unfolding closed_envelope
  square_closed = closure_of_closed (square_envelope square) square_rises

  -- The closure as a square: it holds F*, nowhere above the square ..
  pub closed_square_at : (s t : ℕ) → s ≤ last_slot → t ≤ last_slot → square_entry (closed_square square) s t ≡ closed_envelope square s t
  unfolding closed_square closed_envelope
  closed_square_at s t p q = square_of_at (closure_of (square_envelope square)) s t p q

  pub closed_square_under : (s t : ℕ) → s ≤ last_slot → t ≤ last_slot → square_entry (closed_square square) s t ≤ square_entry square s t
  unfolding closed_envelope
  closed_square_under s t p q =
      elim (dec_le t s) [
        | yes r ↦ omega (arith, closed_square_at s t p q, closure_of-zero (square_envelope square) s t r)
        | no r ↦ omega (arith, closed_square_at s t p q, closure_of_under (square_envelope square) s t (omega arith), envelope_at_lem square s t p q)
      ]

  -- .. and its rows are 0 up to the diagonal and do not fall after it.
  pub closed_square_ok : Square (closed_square square)
  unfolding closed_envelope
  closed_square_ok =
      record {
        starts = λ s t p q. closed_square_at s t q (omega arith) ∙ closure_of-zero (square_envelope square) s t p;
        rises = λ s t r st tr q.
            omega (arith, closed_square_at s t (omega arith) (omega arith), closed_square_at s r (omega arith) q, square_closed.rises s t r tr);
      }

  closed_square_envelope : (s t : ℕ) → s ≤ t → t ≤ last_slot → closed_envelope square s t ≡ square_envelope (closed_square square) s t
  closed_square_envelope s t p q = sym (envelope_at_lem (closed_square square) s t (omega arith) q ∙ closed_square_at s t (omega arith) q)

  -- The closed square's own envelope is closed, also beyond the square.
  pub closed_square_closed : ClosedEnvelope (square_envelope (closed_square square))
  closed_square_closed =
      record {
        starts = λ s. at s s ∙ square_closed.starts (min s last_slot);
        rises = λ s t r p. omega (arith, at s t, at s r, square_closed.rises (min s last_slot) (min t last_slot) (min r last_slot) (omega arith));
        chains = λ s t r p q.
            omega (arith, at s t, at t r, at s r, square_closed.chains (min s last_slot) (min t last_slot) (min r last_slot) (omega arith) (omega arith));
      }
    where
      at : (s t : ℕ) → square_envelope (closed_square square) s t ≡ closed_envelope square (min s last_slot) (min t last_slot)
      at s t = unfold square_envelope in closed_square_at (min s last_slot) (min t last_slot) (omega arith) (omega arith)

  module _ (d q : Limit) (trace : List ℕ) where
    abbrev a : ℕ → ℕ
    a = arrivals trace

    abbrev T : ℕ
    T = length trace

    -- Theorem 5.1 over the closed square's own numbers gives the rows: a run closes the square once and looks at it alone.
    pub closed_square-admitted_row : Reached d T → slot_counts (admitted (square_envelope (closed_square square)) d q a) T ≡ square_admitted_row square d q trace
    unfolding square_admitted_row
    closed_square-admitted_row reached = sym (slot_counts_cong _ _ T (admitted_reached _ _ closed_square_envelope d q a T reached))

    pub closed_square-dropped_row : Reached d T → slot_counts (lost (square_envelope (closed_square square)) d q a) T ≡ square_dropped_row square d q trace
    unfolding square_dropped_row
    closed_square-dropped_row reached = sym (slot_counts_cong _ _ T (lost_reached _ _ closed_square_envelope d q a T reached))

    pub closed_square-departed_row : Reached d T → slot_counts (departed (square_envelope (closed_square square)) d q a) T ≡ square_departed_row square d q trace
    unfolding square_departed_row
    closed_square-departed_row reached = sym (slot_counts_cong _ _ T (departed_reached _ _ closed_square_envelope d q a T reached))

    -- Demand 3, for pairs that keep F: the rows are the least loss that there is.
    pub square-lowest : SquareLowestLoss square d q trace (square_admitted_row square d q trace) (square_dropped_row square d q trace) (square_departed_row square d q trace)
    unfolding square_admitted_row square_dropped_row square_departed_row closed_envelope
    square-lowest =
        let F : ℕ → ℕ → ℕ = square_envelope square in
        let least = counts-lowest (closure_of F) (closure_of_closed F square_rises) d q trace in
        lowest_among_fewer (Permitted (closure_of F) d q a T) (Permitted F d q a T) d _ _ trace _ _ _ (permitted-closure_of F d q a T) (closure_of_permitted F d q a T _ _ least.permitted) least

-- A square made from a closed table is accepted, closes to that table, and gives its rows.
module _ (table : List ℕ) (given : Table (length table - 1) (λ k. get_or table k 0)) where
  abbrev f : ℕ → ℕ
  f = envelope_of table

  abbrev made : List (List ℕ)
  made = square_of (windows f)

  table_closed : ClosedEnvelope (windows f)
  unfolding envelope_of
  table_closed = closure_envelope (length table - 1) (λ k. get_or table k 0) given

  pub made_ok : Square made
  made_ok =
      record {
        starts = λ s t p q. square_of_at (windows f) s t q (omega arith) ∙ before s t p;
        rises = λ s t r st tr q.
            omega (arith, square_of_at (windows f) s t (omega arith) (omega arith), square_of_at (windows f) s r (omega arith) q, table_closed.rises s t r tr);
      }
    where
      before : (s t : ℕ) → t ≤ s → windows f s t ≡ 0
      before s t p = omega (arith, table_closed.rises s t s p, table_closed.starts s)

  -- None of its entries passes f(32).
  pub made_small : (s t : ℕ) → s ≤ last_slot → t ≤ last_slot → square_entry made s t ≤ f last_slot
  unfolding windows
  made_small s t p q =
      let window : t - s - 0 ≡ t - s = omega arith in
      omega (arith, square_of_at (windows f) s t p q, ap f window, table_closed.rises 0 (t - s) last_slot (omega arith))

  made_closes : (s t : ℕ) → s ≤ t → t ≤ last_slot → closed_envelope made s t ≡ windows f s t
  unfolding closed_envelope
  made_closes s t p q =
      closure_of_cong (square_envelope made) (windows f) s t
      (λ i j ij jt. envelope_at_lem made i j (omega arith) (omega arith) ∙ square_of_at (windows f) i j (omega arith) (omega arith))
      ∙ closure_of_own (windows f) table_closed s t p

  module _ (d q : Limit) (trace : List ℕ) (reached : Reached d (length trace)) where
    pub made-admitted_row : square_admitted_row made d q trace ≡ admitted_row table d q trace
    unfolding square_admitted_row admitted_row admitted_by
    made-admitted_row = slot_counts_cong _ _ (length trace) (admitted_reached _ (windows f) made_closes d q (arrivals trace) (length trace) reached)

    pub made-dropped_row : square_dropped_row made d q trace ≡ dropped_row table d q trace
    unfolding square_dropped_row dropped_row lost_by
    made-dropped_row = slot_counts_cong _ _ (length trace) (lost_reached _ (windows f) made_closes d q (arrivals trace) (length trace) reached)

    pub made-departed_row : square_departed_row made d q trace ≡ departed_row table d q trace
    unfolding square_departed_row departed_row departed_by
    made-departed_row = slot_counts_cong _ _ (length trace) (departed_reached _ (windows f) made_closes d q (arrivals trace) (length trace) reached)
