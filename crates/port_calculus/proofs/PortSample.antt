-- A port of two packets a slot, by its definition. Stream 0 has deadline 1 and brings 3, 0, 1; stream 1 has deadline 0 and brings 1, 3, 0.
-- Slot 1 sends stream 1's packet, which is due first, and one of stream 0; slot 2 has five packets that are due by it and sends the lower
-- stream's two; slot 3 sends two of stream 1, late, and leaves a third one, late too, and stream 0's last, which is due after the run.
use mathlib.Core.Path.{◌≡◌, refl}
use mathlib.Core.List.{List, [], ◌∷◌}
use Prim.Native.Nat.{ℕ}
use native.Mathlib.Omega.{arith}
use lib.ListN.{get_or}
use Rattle.calculus.specs.Numbers.Lists.{list_of}
use Rattle.port_calculus.specs.Port.{sum_below, due_before, ahead, sends, keeps, coming, stream_arrivals, offered, sent, waiting, sent_of, late, stream_rows, port_rows, late_row}
use Rattle.port_calculus.proofs.PortTables.{table, OfferedTable, offered_none, offered_next, sent_of-table, both_streams}

abbrev deadline : ℕ → ℕ
deadline i = get_or (1 ∷ 0 ∷ []) i 0

abbrev brings : ℕ → ℕ → ℕ
brings = stream_arrivals 3 (3 ∷ 0 ∷ 1 ∷ 1 ∷ 3 ∷ 0 ∷ [])

-- What is offered in a slot, as a row for each stream, by due slots 0 to 4.
abbrev Offered : ℕ → List ℕ → List ℕ → Type 0
Offered t x y = OfferedTable 2 deadline brings 2 5 t (x ∷ y ∷ [])

slot_0 : Offered 0 (0 ∷ 0 ∷ 0 ∷ 0 ∷ 0 ∷ []) (0 ∷ 0 ∷ 0 ∷ 0 ∷ 0 ∷ [])
unfolding list_of
slot_0 = offered_none 2 deadline brings 2 5 _ (both_streams _ (omega arith) (omega arith)) (both_streams _ refl refl)

slot_1 : Offered 1 (0 ∷ 0 ∷ 3 ∷ 0 ∷ 0 ∷ []) (0 ∷ 1 ∷ 0 ∷ 0 ∷ 0 ∷ [])
unfolding list_of keeps sends ahead due_before sum_below coming table stream_arrivals
slot_1 = offered_next 2 deadline brings 2 5 0 _ _ slot_0 (both_streams _ (omega arith) (omega arith)) (both_streams _ refl refl)

slot_2 : Offered 2 (0 ∷ 0 ∷ 2 ∷ 0 ∷ 0 ∷ []) (0 ∷ 0 ∷ 3 ∷ 0 ∷ 0 ∷ [])
unfolding list_of keeps sends ahead due_before sum_below coming table stream_arrivals
slot_2 = offered_next 2 deadline brings 2 5 1 _ _ slot_1 (both_streams _ (omega arith) (omega arith)) (both_streams _ refl refl)

slot_3 : Offered 3 (0 ∷ 0 ∷ 0 ∷ 0 ∷ 1 ∷ []) (0 ∷ 0 ∷ 3 ∷ 0 ∷ 0 ∷ [])
unfolding list_of keeps sends ahead due_before sum_below coming table stream_arrivals
slot_3 = offered_next 2 deadline brings 2 5 2 _ _ slot_2 (both_streams _ (omega arith) (omega arith)) (both_streams _ refl refl)

rows_of : (h : ℕ → ℕ → ℕ) → h 0 1 ≡ 1 → h 0 2 ≡ 2 → h 0 3 ≡ 0 → h 1 1 ≡ 1 → h 1 2 ≡ 0 → h 1 3 ≡ 2
    → stream_rows h 3 2 ≡ 1 ∷ 2 ∷ 0 ∷ 1 ∷ 0 ∷ 2 ∷ []
unfolding stream_rows list_of
rows_of h a b c d e f = rw (a, b, c, d, e, f) refl

pub sample-sent : port_rows (1 ∷ 0 ∷ []) 3 2 (3 ∷ 0 ∷ 1 ∷ 1 ∷ 3 ∷ 0 ∷ []) ≡ 1 ∷ 2 ∷ 0 ∷ 1 ∷ 0 ∷ 2 ∷ []
unfolding keeps sends ahead due_before sum_below table port_rows
sample-sent =
    rows_of (sent_of 2 deadline brings 2)
    (sent_of-table 2 deadline brings 2 5 1 0 _ slot_1 (omega arith) (omega arith))
    (sent_of-table 2 deadline brings 2 5 2 0 _ slot_2 (omega arith) (omega arith))
    (sent_of-table 2 deadline brings 2 5 3 0 _ slot_3 (omega arith) (omega arith))
    (sent_of-table 2 deadline brings 2 5 1 1 _ slot_1 (omega arith) (omega arith))
    (sent_of-table 2 deadline brings 2 5 2 1 _ slot_2 (omega arith) (omega arith))
    (sent_of-table 2 deadline brings 2 5 3 1 _ slot_3 (omega arith) (omega arith))

pub sample-late : late_row (1 ∷ 0 ∷ []) 3 2 (3 ∷ 0 ∷ 1 ∷ 1 ∷ 3 ∷ 0 ∷ []) ≡ 0 ∷ 3 ∷ []
unfolding sum_below due_before ahead sends keeps coming stream_arrivals offered sent waiting sent_of late stream_rows port_rows late_row list_of
sample-late = refl
