-- The chains of a table, two limits and a trace (document 02, request 2.8): the calculus's, at f, the limits and the arrivals.
use Rattle.std.specs.Prelude.{ℕ, Bool, List, length}
use Rattle.calculus.specs.Numbers.Limit.{Limit}
use Rattle.calculus.specs.Regulators.Trace.{arrivals}
use Rattle.calculus.specs.Regulators.Rows.{envelope_of}
use Rattle.chain_calculus.specs.Chain.{amount, link_sound, chain_sound}
use Rattle.chain_calculus.specs.ChainFound.{link_first, link_mark, chain_slots, chain_marks, chain_amounts}
use Rattle.refusals.specs.Limits.{delay_limit, buffer_limit}

-- the found chain to slot t: its slots, marks and amounts, and its number of places
abbrev pub slots_to : List ℕ → ℕ → ℕ → List ℕ → ℕ → List ℕ
slots_to table d q trace = chain_slots (envelope_of table) (delay_limit d) (buffer_limit q) (arrivals trace)

abbrev pub marks_to : List ℕ → ℕ → ℕ → List ℕ → ℕ → List ℕ
marks_to table d q trace = chain_marks (envelope_of table) (delay_limit d) (buffer_limit q) (arrivals trace)

abbrev pub amounts_to : List ℕ → ℕ → ℕ → List ℕ → ℕ → List ℕ
amounts_to table d q trace = chain_amounts (envelope_of table) (delay_limit d) (buffer_limit q) (arrivals trace)

abbrev pub places_to : List ℕ → ℕ → ℕ → List ℕ → ℕ → ℕ
places_to table d q trace t = length (slots_to table d q trace t)

-- the link that ends in slot t: its first slot and its mark
abbrev pub first_to : List ℕ → ℕ → ℕ → List ℕ → ℕ → ℕ
first_to table d q trace = link_first (envelope_of table) (delay_limit d) (buffer_limit q) (arrivals trace)

abbrev pub mark_to : List ℕ → ℕ → ℕ → List ℕ → ℕ → ℕ
mark_to table d q trace = link_mark (envelope_of table) (delay_limit d) (buffer_limit q) (arrivals trace)

-- the amount of a link, and whether a link and a chain are sound
abbrev pub amount_in : List ℕ → ℕ → ℕ → List ℕ → ℕ → ℕ → ℕ → Limit
amount_in table d q trace = amount (envelope_of table) (delay_limit d) (buffer_limit q) (arrivals trace)

abbrev pub link_in : List ℕ → ℕ → ℕ → List ℕ → ℕ → ℕ → ℕ → ℕ → Bool
link_in table d q trace = link_sound (envelope_of table) (delay_limit d) (buffer_limit q) (arrivals trace)

abbrev pub sound_to : List ℕ → ℕ → ℕ → List ℕ → ℕ → List ℕ → List ℕ → List ℕ → ℕ → Bool
sound_to table d q trace = chain_sound (envelope_of table) (delay_limit d) (buffer_limit q) (arrivals trace)
