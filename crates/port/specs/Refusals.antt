-- What is refused of a port's run (document 02, request 2.11).
use Rattle.std.specs.Prelude.{ℕ, ◌*◌, List, [], ◌∷◌, length, ltb}
use Rattle.orders.specs.Refusal.{◌when◌, ◌or_else◌}
use Rattle.refusals.specs.Lengths.{lists_refusal, counts_refusal}

-- A port has one to eight streams, a run up to 256 slots, and a deadline is 0 to 64 slots.
abbrev pub most_streams : ℕ
most_streams = 8

abbrev pub longest_run : ℕ
longest_run = 256

abbrev pub longest_deadline : ℕ
longest_deadline = 64

-- 21: streams outside 1 to 8, or a run above 256 slots
unfoldable pub streams_refusal : ℕ → ℕ → ℕ
streams_refusal streams slots = 21 when ltb streams 1 or_else 21 when ltb most_streams streams or_else 21 when ltb longest_run slots

-- 22: a deadline above 64
unfoldable pub deadlines_refusal : List ℕ → ℕ
deadlines_refusal [] = 0
deadlines_refusal (deadline ∷ later) = 22 when ltb longest_deadline deadline or_else deadlines_refusal later

-- Port: 21, 22, 11, 8. 11 is for an input or a list of packets sent that is not streams × slots long, or a late list without one
-- count a stream.
unfoldable pub port_refusal : List ℕ → ℕ → List ℕ → ℕ → ℕ → ℕ
port_refusal deadlines slots input sent late =
    streams_refusal (length deadlines) slots
    or_else deadlines_refusal deadlines
    or_else (lists_refusal (length deadlines * slots) (length input) or_else lists_refusal (length deadlines * slots) sent or_else lists_refusal (length deadlines) late)
    or_else counts_refusal input
