-- What a run over a closed square asks, and the lists that it fills.
use Rattle.std.specs.Prelude.{◌≡◌, List, ℕ, ◌≤◌, length, get_or}
use Rattle.calculus.specs.Numbers.Limit.{Limit, delay_limit}
use Rattle.calculus.specs.Envelopes.Envelope.{ClosedEnvelope}
use Rattle.calculus.specs.Regulators.Clipper.{admitted}
use Rattle.calculus.specs.Regulators.Regulator.{departed, lost}
use Rattle.calculus.specs.Regulators.Trace.{arrivals, slot_counts}
use Rattle.square_calculus.specs.Square.{square_envelope}
use Rattle.square_calculus.specs.SquareRows.{Reached}
use Rattle.square.specs.Refusals.{Small}

-- a closed square without large entries, a trace that it reaches, and as many places in each list
pub record Running (bounds : List (List ℕ)) (delay buffer : ℕ) (trace : List ℕ) (ins drops outs : ℕ) : Type 0 where
  pub closed : ClosedEnvelope (square_envelope bounds)
  pub small : Small bounds
  pub reached : Reached (delay_limit delay) (length trace)
  pub few : (k : ℕ) → get_or trace k 0 ≤ 1000000
  pub long_ins : ins ≡ length trace
  pub long_drops : drops ≡ length trace
  pub long_outs : outs ≡ length trace

-- lists that hold theorem 5.1's counts over a closed square
pub record RowsOf (bounds : List (List ℕ)) (d q : Limit) (trace ins drops outs : List ℕ) : Type 0 where
  pub admits : ins ≡ slot_counts (admitted (square_envelope bounds) d q (arrivals trace)) (length trace)
  pub dropped : drops ≡ slot_counts (lost (square_envelope bounds) d q (arrivals trace)) (length trace)
  pub departs : outs ≡ slot_counts (departed (square_envelope bounds) d q (arrivals trace)) (length trace)
