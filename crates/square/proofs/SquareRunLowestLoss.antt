-- Demands 2 and 3 for the run with an envelope that varies with time: once it is accepted, its lists are theorem 5.1's rows for the
-- closure of F, and no pair that keeps F loses less. A square made from a closed table gives that table's lists.
use mathlib.Core.Path.{◌≡◌, sym, ◌∙◌}
use mathlib.Core.List.{List}
use Prim.Native.Nat.{ℕ}
use lib.ListN.{length}
use Rattle.calculus.specs.Envelopes.Envelope.{windows}
use Rattle.calculus.specs.Regulators.Rows.{envelope_of, admitted_row, dropped_row, departed_row}
use Rattle.square_calculus.specs.Square.{square_of}
use Rattle.square_calculus.specs.SquareRows.{square_admitted_row, square_dropped_row, square_departed_row, SquareLowestLoss}
use Rattle.square_calculus.proofs.SquareRows.{square-lowest, made-admitted_row, made-dropped_row, made-departed_row}
use Rattle.refusals.specs.Table.{table_refusal}
use Rattle.orders.specs.Verdict.{Verdict, Accepted}
use Rattle.refusals.proofs.TableJudged.{table_given, table-accepted}
use Rattle.refusals.specs.Limits.{delay_limit, buffer_limit}
use Rattle.orders.specs.Answered.{unless_refused}
use Rattle.orders.proofs.Answered.{verdict-accepted}
use Rattle.square.specs.RunRefusals.{square_run_refusal}
use Rattle.square.specs.SquareRun.{SquareRan}
use Rattle.square.proofs.AcceptedSquare.{accepted_square}
use Rattle.square.proofs.RunAnswer.{run-accepted}

module _ (square : List (List ℕ)) (d q : ℕ) (trace ins drops outs : List ℕ) (verdict : Verdict) (ins' drops' outs' : List ℕ)
    (ran : SquareRan square d q trace ins drops outs verdict ins' drops' outs') (accepted : verdict ≡ Accepted) where
  no_number : square_run_refusal square d q trace (length ins) (length drops) (length outs) ≡ 0
  no_number = verdict-accepted _ (sym ran.answered ∙ accepted)

  -- Demand 2: the lists are theorem 5.1's rows.
  pub square_run_rows : (ins' ≡ square_admitted_row square (delay_limit d) (buffer_limit q) trace) × (drops' ≡ square_dropped_row square (delay_limit d) (buffer_limit q) trace)
      × (outs' ≡ square_departed_row square (delay_limit d) (buffer_limit q) trace)
  unfolding unless_refused
  square_run_rows = (rw no_number at ran.admits, rw no_number at ran.dropped, rw no_number at ran.departs)

  -- Demand 3: no pair that keeps F loses less.
  pub square_run-lowest-loss : SquareLowestLoss square (delay_limit d) (buffer_limit q) trace ins' drops' outs'
  square_run-lowest-loss =
      let ok = run-accepted square d q trace (length ins) (length drops) (length outs) no_number in
      rw (square_run_rows.0, square_run_rows.1, square_run_rows.2)
      (square-lowest square (accepted_square square ok.judged) (delay_limit d) (buffer_limit q) trace)

  -- A square made from a closed table gives that table's rows.
  pub square_run-made : (table : List ℕ) → table_refusal table ≡ 0 → square ≡ square_of (windows (envelope_of table))
      → (ins' ≡ admitted_row table (delay_limit d) (buffer_limit q) trace) × (drops' ≡ dropped_row table (delay_limit d) (buffer_limit q) trace)
      × (outs' ≡ departed_row table (delay_limit d) (buffer_limit q) trace)
  square_run-made table fine made =
      let ok = run-accepted square d q trace (length ins) (length drops) (length outs) no_number in
      let given = table_given table (table-accepted table fine) in (
        rw made at square_run_rows.0 ∙ made-admitted_row table given (delay_limit d) (buffer_limit q) trace ok.reached,
        rw made at square_run_rows.1 ∙ made-dropped_row table given (delay_limit d) (buffer_limit q) trace ok.reached,
        rw made at square_run_rows.2 ∙ made-departed_row table given (delay_limit d) (buffer_limit q) trace ok.reached,
      )
