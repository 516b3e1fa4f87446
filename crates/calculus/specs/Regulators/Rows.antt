-- The rows of a table, two limits and a trace: what theorem 5.1 counts in each slot, as lists (document 01, "One slot").
use Rattle.std.specs.Prelude.{List, ℕ, ◌-◌, length, get_or}
use Rattle.calculus.specs.Numbers.Limit.{Limit}
use Rattle.calculus.specs.Envelopes.Closure.{closure}
use Rattle.calculus.specs.Envelopes.Envelope.{windows}
use Rattle.calculus.specs.Regulators.Clipper.{admitted}
use Rattle.calculus.specs.Regulators.Regulator.{departed, lost, held}
use Rattle.calculus.specs.Regulators.Trace.{arrivals, slot_counts, slot_totals}

-- f, for a table given as the list of its L+1 entries
unfoldable pub envelope_of : List ℕ → ℕ → ℕ
envelope_of table = closure (length table - 1) (λ k. get_or table k 0)

-- X(t) and Y(t), the loss and the held total, for a table, the limits and a trace
unfoldable pub admitted_by : List ℕ → Limit → Limit → List ℕ → ℕ → ℕ
admitted_by table d q trace = admitted (windows (envelope_of table)) d q (arrivals trace)

unfoldable pub departed_by : List ℕ → Limit → Limit → List ℕ → ℕ → ℕ
departed_by table d q trace = departed (windows (envelope_of table)) d q (arrivals trace)

unfoldable pub lost_by : List ℕ → Limit → Limit → List ℕ → ℕ → ℕ
lost_by table d q trace = lost (windows (envelope_of table)) d q (arrivals trace)

unfoldable pub held_by : List ℕ → Limit → Limit → List ℕ → ℕ → ℕ
held_by table d q trace = held (windows (envelope_of table)) d q (arrivals trace)

-- packets admitted, dropped and departed in each slot, and held after it
unfoldable pub admitted_row : List ℕ → Limit → Limit → List ℕ → List ℕ
admitted_row table d q trace = slot_counts (admitted_by table d q trace) (length trace)

unfoldable pub dropped_row : List ℕ → Limit → Limit → List ℕ → List ℕ
dropped_row table d q trace = slot_counts (lost_by table d q trace) (length trace)

unfoldable pub departed_row : List ℕ → Limit → Limit → List ℕ → List ℕ
departed_row table d q trace = slot_counts (departed_by table d q trace) (length trace)

unfoldable pub held_row : List ℕ → Limit → Limit → List ℕ → List ℕ
held_row table d q trace = slot_totals (held_by table d q trace) (length trace)
