-- The starred rows of document 01, "Rows to check by hand", as request 2.9 restates them, and of request 2.4, as one table.
use Rattle.std.specs.Prelude.{◌≡◌, List, [], ◌∷◌, ℕ, ◌+◌}
use Rattle.calculus.specs.Numbers.Limit.{delay_limit, buffer_limit}
use Rattle.calculus.specs.Regulators.Clipper.{arrived}
use Rattle.calculus.specs.Regulators.Trace.{arrivals}
use Rattle.calculus.specs.Envelopes.Piece.{table_piece}
use Rattle.calculus.specs.Regulators.Rows.{envelope_of, admitted_by, lost_by, departed_by, held_by, admitted_row, dropped_row, departed_row, held_row}

-- f of a table at the windows 0, 1, 2, ..
unfoldable pub closes_to : List ℕ → ℕ → List ℕ → Type 0
closes_to table n [] = Unit {0}
closes_to table n (x ∷ xs) = (envelope_of table n ≡ x) × closes_to table (n + 1) xs

-- f of a table at a window, and its first piece
abbrev pub answers_with : List ℕ → ℕ → ℕ → ℕ → Type 0
answers_with table window f piece = (envelope_of table window ≡ f) × (table_piece table window ≡ piece)

-- packets admitted, dropped and departed in each slot, and held after it
pub record Row (table : List ℕ) (d q : ℕ) (trace ins drops outs holds : List ℕ) : Type 0 where
  pub admits : admitted_row table (delay_limit d) (buffer_limit q) trace ≡ ins
  pub dropping : dropped_row table (delay_limit d) (buffer_limit q) trace ≡ drops
  pub departs : departed_row table (delay_limit d) (buffer_limit q) trace ≡ outs
  pub holding : held_row table (delay_limit d) (buffer_limit q) trace ≡ holds

-- the line of totals: arrived, admitted, dropped, departed by slot t, and held after it
pub record TotalLine (table : List ℕ) (d q : ℕ) (trace : List ℕ) (t came ins drops outs hold : ℕ) : Type 0 where
  pub arrives : arrived (arrivals trace) t ≡ came
  pub admits : admitted_by table (delay_limit d) (buffer_limit q) trace t ≡ ins
  pub dropping : lost_by table (delay_limit d) (buffer_limit q) trace t ≡ drops
  pub departs : departed_by table (delay_limit d) (buffer_limit q) trace t ≡ outs
  pub holding : held_by table (delay_limit d) (buffer_limit q) trace t ≡ hold

pub record StarredRows : Type 0 where
  -- Table 0,2,5 closes to 0,2,4; 0,0,5 to 0,0,0; 0,5,6,20 to 0,5,6,11.
  pub closes_025 : closes_to (0 ∷ 2 ∷ 5 ∷ []) 0 (0 ∷ 2 ∷ 4 ∷ [])
  pub closes_005 : closes_to (0 ∷ 0 ∷ 5 ∷ []) 0 (0 ∷ 0 ∷ 0 ∷ [])
  pub closes_05620 : closes_to (0 ∷ 5 ∷ 6 ∷ 20 ∷ []) 0 (0 ∷ 5 ∷ 6 ∷ 11 ∷ [])
  -- Table 0,2,3 gives 5 and 6 at windows 3 and 4.
  pub beyond_023 : closes_to (0 ∷ 2 ∷ 3 ∷ []) 3 (5 ∷ 6 ∷ [])
  -- Table 0,2,3 at window 4 answers 6 with piece 2; table 0,2,5 at window 2 answers 4 with piece 1; window 0 answers 0 with piece 0.
  pub piece_023 : answers_with (0 ∷ 2 ∷ 3 ∷ []) 4 6 2
  pub piece_025 : answers_with (0 ∷ 2 ∷ 5 ∷ []) 2 4 1
  pub piece_none : answers_with (0 ∷ 2 ∷ 3 ∷ []) 0 0 0
  -- Table 0,2,3, d 1, q 9, arrivals 5,0,4,0: admitted 3,0,3,0; dropped 2,0,1,0; departed 2,1,2,1.
  pub delay_1_buffer_9 :
      Row (0 ∷ 2 ∷ 3 ∷ []) 1 9 (5 ∷ 0 ∷ 4 ∷ 0 ∷ [])
      (3 ∷ 0 ∷ 3 ∷ 0 ∷ []) (2 ∷ 0 ∷ 1 ∷ 0 ∷ []) (2 ∷ 1 ∷ 2 ∷ 1 ∷ []) (1 ∷ 0 ∷ 1 ∷ 0 ∷ [])
  -- The same with d 0, arrivals 5,0,4: admitted and departed 2,0,2; dropped 3,0,2.
  pub delay_0_buffer_9 :
      Row (0 ∷ 2 ∷ 3 ∷ []) 0 9 (5 ∷ 0 ∷ 4 ∷ []) (2 ∷ 0 ∷ 2 ∷ []) (3 ∷ 0 ∷ 2 ∷ []) (2 ∷ 0 ∷ 2 ∷ []) (0 ∷ 0 ∷ 0 ∷ [])
  -- With d 1 and q 0 nothing is ever admitted.
  pub delay_1_buffer_0 :
      Row (0 ∷ 2 ∷ 3 ∷ []) 1 0 (5 ∷ 0 ∷ 4 ∷ []) (0 ∷ 0 ∷ 0 ∷ []) (5 ∷ 0 ∷ 4 ∷ []) (0 ∷ 0 ∷ 0 ∷ []) (0 ∷ 0 ∷ 0 ∷ [])
  -- Table 0,2,3, both limits none, arrivals 5,0,4: nothing dropped, departed 2,1,2, held 3,2,4.
  pub no_limits : Row (0 ∷ 2 ∷ 3 ∷ []) 255 4294967295 (5 ∷ 0 ∷ 4 ∷ []) (5 ∷ 0 ∷ 4 ∷ []) (0 ∷ 0 ∷ 0 ∷ []) (2 ∷ 1 ∷ 2 ∷ []) (3 ∷ 2 ∷ 4 ∷ [])
  -- Table 0,0, no delay limit, q 5, arrivals 3,4: admitted 3,2; dropped 0,2; departed 0,0.
  pub nothing_departs : Row (0 ∷ 0 ∷ []) 255 5 (3 ∷ 4 ∷ []) (3 ∷ 2 ∷ []) (0 ∷ 2 ∷ []) (0 ∷ 0 ∷ []) (3 ∷ 5 ∷ [])
  -- Table 0,4,8,12,16,17,18, d 255, q 4, slots 1 to 4 with 6 each: the printed table's lines, and its line of totals.
  pub six_packet-burst :
      Row (0 ∷ 4 ∷ 8 ∷ 12 ∷ 16 ∷ 17 ∷ 18 ∷ []) 255 4 (6 ∷ 6 ∷ 6 ∷ 6 ∷ [])
      (4 ∷ 4 ∷ 4 ∷ 4 ∷ []) (2 ∷ 2 ∷ 2 ∷ 2 ∷ []) (4 ∷ 4 ∷ 4 ∷ 4 ∷ []) (0 ∷ 0 ∷ 0 ∷ 0 ∷ [])
  pub six_packet_totals : TotalLine (0 ∷ 4 ∷ 8 ∷ 12 ∷ 16 ∷ 17 ∷ 18 ∷ []) 255 4 (6 ∷ 6 ∷ 6 ∷ 6 ∷ []) 4 24 16 8 16 0
