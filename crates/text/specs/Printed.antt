-- What the two printing functions write into a lent list of bytes, and when they write nothing.
use Rattle.std.specs.Prelude.{◌≡◌, Bool, true, false, ◌&&◌, List, [], ◌++◌, ℕ, ◌+◌, ◌*◌, ◌≤◌, length, drop, leb, eqb}
use Rattle.calculus.specs.Numbers.Sizes.{most_trace}
use Rattle.text.specs.Lines.{table_text, refused_text}

-- a text where the test holds, else nothing
unfoldable pub only_if : Bool → List ℕ → List ℕ
only_if true text = text
only_if false text = []

-- the bytes that hold any slot's line, the heading with any line of totals, and any refusal
abbrev pub line_room : ℕ
line_room = 64

abbrev pub heading_and_totals_room : ℕ
heading_and_totals_room = 128

abbrev pub refusal_room : ℕ
refusal_room = 32

-- the four lists of a table: one length, of at most 4,096 slots
pub record Columns (arrived admitted dropped departed : List ℕ) : Type 0 where
  pub slots : length arrived ≤ most_trace
  pub admitted_slots : length admitted ≡ length arrived
  pub dropped_slots : length dropped ≡ length arrived
  pub departed_slots : length departed ≡ length arrived

-- A table fits where the lists are equally long, there are at most 4,096 slots, and the room has 64 bytes for each slot's
-- line and 128 for the heading and the line of totals.
unfoldable pub table_fits : List ℕ → List ℕ → List ℕ → List ℕ → ℕ → Bool
table_fits arrived admitted dropped departed room =
    eqb (length admitted) (length arrived)
    && eqb (length dropped) (length arrived)
    && eqb (length departed) (length arrived)
    && leb (length arrived) most_trace
    && leb (line_room * length arrived + heading_and_totals_room) room

-- a refusal fits in 32 bytes
unfoldable pub refusal_fits : ℕ → Bool
refusal_fits room = leb refusal_room room

-- what is printed in the room: the text where it fits, else nothing
unfoldable pub table_printed : List ℕ → List ℕ → List ℕ → List ℕ → ℕ → List ℕ
table_printed arrived admitted dropped departed room =
    only_if (table_fits arrived admitted dropped departed room) (table_text arrived admitted dropped departed)

unfoldable pub refused_printed : ℕ → ℕ → List ℕ
refused_printed number room = only_if (refusal_fits room) (refused_text number)

-- The text stands at the start of the list, whose other bytes are as before, and its length is answered.
pub record Printed (before text after : List ℕ) (r : ℕ) : Type 0 where
  pub count : r ≡ length text
  pub inside : r ≤ length before
  pub bytes : after ≡ text ++ drop r before
