-- The sizes that document 01 fixes, each named once for all definitions above.
use Rattle.std.specs.Prelude.{ℕ}

-- L, the last window of a table, is 1 to 64.
abbrev pub most_window : ℕ
most_window = 64

-- The envelope part answers windows 0 to 4,160.
abbrev pub most_asked : ℕ
most_asked = 4160

-- An entry of a table, a buffer limit and a slot's arrivals are at most 1,000,000 packets.
abbrev pub most_packets : ℕ
most_packets = 1000000

-- A delay limit is at most 64 slots.
abbrev pub most_delay : ℕ
most_delay = 64

-- A live regulator takes at most 1,000,000 slots.
abbrev pub most_slots : ℕ
most_slots = 1000000

-- A whole trace has at most 4,096 slots.
abbrev pub most_trace : ℕ
most_trace = 4096

-- Past and forecast departures share one row of 192 totals.
abbrev pub row_places : ℕ
row_places = 192
