-- An allowance that stops for three slots and comes back (document 02, request 2.10), worked in docs/PENCIL.md: rows s of F(s,t) for the
-- slots 0 to 7, of which no run looks beyond.
use Rattle.std.specs.Prelude.{◌≡◌, List, [], ◌∷◌, ℕ}
use Rattle.calculus.specs.Numbers.Limit.{none, at_most}
use Rattle.calculus.specs.Numbers.Lists.{list_of}
use Rattle.square_calculus.specs.Square.{closure_of, square_envelope}
use Rattle.square_calculus.specs.SquareRows.{square_admitted_row, square_dropped_row, square_departed_row}

unfoldable pub cable_link : List (List ℕ)
cable_link =
    (0 ∷ 2 ∷ 3 ∷ 5 ∷ 5 ∷ 5 ∷ 7 ∷ 9 ∷ [])
    ∷ (0 ∷ 0 ∷ 2 ∷ 2 ∷ 2 ∷ 2 ∷ 5 ∷ 8 ∷ [])
    ∷ (0 ∷ 0 ∷ 0 ∷ 0 ∷ 0 ∷ 0 ∷ 3 ∷ 5 ∷ [])
    ∷ (0 ∷ 0 ∷ 0 ∷ 0 ∷ 0 ∷ 0 ∷ 3 ∷ 5 ∷ [])
    ∷ (0 ∷ 0 ∷ 0 ∷ 0 ∷ 0 ∷ 0 ∷ 3 ∷ 5 ∷ [])
    ∷ (0 ∷ 0 ∷ 0 ∷ 0 ∷ 0 ∷ 0 ∷ 3 ∷ 5 ∷ [])
    ∷ (0 ∷ 0 ∷ 0 ∷ 0 ∷ 0 ∷ 0 ∷ 0 ∷ 3 ∷ [])
    ∷ []

pub record SquareSample : Type 0 where
  -- The closure lies below the given numbers in six places: five of row 0, one of row 1.
  pub row_0 : list_of (closure_of (square_envelope cable_link) 0) 8 ≡ 0 ∷ 2 ∷ 3 ∷ 3 ∷ 3 ∷ 3 ∷ 6 ∷ 8 ∷ []
  pub row_1 : list_of (closure_of (square_envelope cable_link) 1) 8 ≡ 0 ∷ 0 ∷ 2 ∷ 2 ∷ 2 ∷ 2 ∷ 5 ∷ 7 ∷ []
  -- No delay limit, q 4: four packets wait through the pause, and what arrives meanwhile is dropped.
  pub buffer_admits : square_admitted_row cable_link none (at_most 4) (5 ∷ 3 ∷ 1 ∷ 2 ∷ 6 ∷ 0 ∷ 1 ∷ []) ≡ 4 ∷ 2 ∷ 1 ∷ 0 ∷ 0 ∷ 0 ∷ 1 ∷ []
  pub buffer_drops : square_dropped_row cable_link none (at_most 4) (5 ∷ 3 ∷ 1 ∷ 2 ∷ 6 ∷ 0 ∷ 1 ∷ []) ≡ 1 ∷ 1 ∷ 0 ∷ 2 ∷ 6 ∷ 0 ∷ 0 ∷ []
  pub buffer-departs : square_departed_row cable_link none (at_most 4) (5 ∷ 3 ∷ 1 ∷ 2 ∷ 6 ∷ 0 ∷ 1 ∷ []) ≡ 2 ∷ 1 ∷ 0 ∷ 0 ∷ 0 ∷ 3 ∷ 2 ∷ []
  -- d 1, no buffer limit: nobody is let in who would have to wait through the pause.
  pub delay_admits : square_admitted_row cable_link (at_most 1) none (5 ∷ 3 ∷ 1 ∷ 2 ∷ 6 ∷ 0 ∷ []) ≡ 3 ∷ 0 ∷ 0 ∷ 0 ∷ 3 ∷ 0 ∷ []
  pub delay-departs : square_departed_row cable_link (at_most 1) none (5 ∷ 3 ∷ 1 ∷ 2 ∷ 6 ∷ 0 ∷ []) ≡ 2 ∷ 1 ∷ 0 ∷ 0 ∷ 0 ∷ 3 ∷ []
  -- A run of one slot with d 1 looks as far as slot 2, T + d.
  pub slot_two : square_admitted_row ((0 ∷ 2 ∷ 3 ∷ []) ∷ (0 ∷ 0 ∷ 2 ∷ []) ∷ []) (at_most 1) none (9 ∷ []) ≡ 3 ∷ []
  pub slot_two_more : square_admitted_row ((0 ∷ 2 ∷ 4 ∷ []) ∷ (0 ∷ 0 ∷ 2 ∷ []) ∷ []) (at_most 1) none (9 ∷ []) ≡ 4 ∷ []
