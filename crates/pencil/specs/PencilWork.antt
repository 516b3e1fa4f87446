-- What the pencil's functions ask: an accepted set-up, f at the windows 0 to 128, and a slot of a trace of at most five; and the lists that they fill.
use Rattle.std.specs.Prelude.{◌≡◌, List, ℕ, ◌≤◌, length, get_or}
use Rattle.calculus.specs.Numbers.Limit.{Limit, at_most, delay_limit}
use Rattle.pencil_calculus.specs.Pencil.{pencil_admitted_row, pencil_dropped_row, pencil_departed_row}
use Rattle.refusals.specs.Table.{table_refusal}
use Rattle.settings.specs.Taken.{envelope_from}
use Rattle.envelope.specs.Envelope.{near_row}

pub record Working (table near : List ℕ) (delay buffer : ℕ) (trace : List ℕ) (t : ℕ) : Type 0 where
  pub tabled : table_refusal table ≡ 0
  pub kept : near ≡ near_row (envelope_from table)
  pub short : t ≤ 5
  pub inside : t ≤ length trace
  pub few : (k : ℕ) → get_or trace k 0 ≤ 1000000
  pub delayed : (n : ℕ) → delay_limit delay ≡ at_most n → n ≤ 64

-- lists that hold the pencil's counts
pub record Rows (table : List ℕ) (d q : Limit) (trace ins drops outs : List ℕ) : Type 0 where
  pub admits : ins ≡ pencil_admitted_row table d q trace
  pub dropped : drops ≡ pencil_dropped_row table d q trace
  pub departs : outs ≡ pencil_departed_row table d q trace
