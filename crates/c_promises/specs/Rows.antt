-- What C gets of a list of slot calls, a row a call, and all that is claimed of it: demands 1, 2 and 3 over the rows alone.
use Rattle.std.specs.Prelude.{◌≡◌, List, [], ◌∷◌, map, ℕ, zero, suc, length}
use Rattle.calculus.specs.Numbers.Limit.{Limit}
use Rattle.calculus.specs.Envelopes.Envelope.{windows}
use Rattle.calculus.specs.Regulators.Trace.{arrivals}
use Rattle.calculus.specs.Losses.LossCurve.{LowestLoss}
use Rattle.live_step.specs.declared.record.SlotRecord.{SlotRecord}
use Rattle.calls.specs.Calls.{trace_of, unrefused}
use Rattle.calls.specs.CallsRun.{rows_after}
use Rattle.c_answers.specs.declared.answer.SlotRow.{SlotRow}
use Rattle.c_promises.specs.Calls.{CallsJudged}

-- an accepted call's row: 0 and the slot's record
unfoldable pub counted_row : SlotRecord → SlotRow
counted_row c = record { number = 0; held_before = c.held_before; admitted = c.admitted; dropped = c.dropped; departed = c.departed }

-- a refused call's row: the number, and no counts
unfoldable pub refused_row : ℕ → SlotRow
refused_row n = record { number = n; held_before = 0; admitted = 0; dropped = 0; departed = 0 }

-- the rows of calls that got these numbers, where the slots' records are these
unfoldable pub rows_by : List ℕ → List SlotRecord → List SlotRow
rows_by [] records = []
rows_by (zero ∷ numbers) [] = []
rows_by (zero ∷ numbers) (c ∷ records) = counted_row c ∷ rows_by numbers records
rows_by (suc k ∷ numbers) records = refused_row (suc k) ∷ rows_by numbers records

-- the rows of accepted calls: slots 1 to T in order
unfoldable pub kept_if : ℕ → SlotRow → List SlotRow → List SlotRow
kept_if zero a rows = a ∷ rows
kept_if (suc k) a rows = rows

unfoldable pub accepted_rows : List SlotRow → List SlotRow
accepted_rows [] = []
accepted_rows (a ∷ rows) = kept_if a.number a (accepted_rows rows)

-- f is the envelope, d and q the limits.
pub record RowsRun (f : ℕ → ℕ) (d q : Limit) (calls : List ℕ) (rows : List SlotRow) : Type 1 where
  -- Every call gets the number that the order of a slot settles, and the trace is the calls that get 0.
  pub judged : CallsJudged 0 calls (map (λ (a : SlotRow). a.number) rows)
  pub traced : trace_of calls ≡ unrefused (map (λ (a : SlotRow). a.number) rows) calls
  -- A refused call's row has no counts, and those of the accepted calls are theorem 5.1's over the entire history, field by field.
  pub filled : rows ≡ rows_by (map (λ (a : SlotRow). a.number) rows) (rows_after (windows f) d q (arrivals (trace_of calls)) 0 (length (trace_of calls)))
  -- No permitted pair loses less than the accepted calls' rows tell.
  pub lowest : LowestLoss (windows f) d q (trace_of calls) (map (λ (a : SlotRow). a.admitted) (accepted_rows rows))
      (map (λ (a : SlotRow). a.dropped) (accepted_rows rows)) (map (λ (a : SlotRow). a.departed) (accepted_rows rows))
