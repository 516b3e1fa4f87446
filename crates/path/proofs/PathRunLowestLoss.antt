-- Demands 2 and 3 for a path's whole-trace run: whatever its lent lists were, once it is accepted they are the path's rows, the last
-- stage's are theorem 5.1's, and no pair whose departures keep every stage's envelope loses less. Nothing is assumed of a run but what
-- its contract says.
use mathlib.Core.Path.{◌≡◌, sym, ◌∙◌, subst}
use mathlib.Core.List.{List}
use Prim.Native.Nat.{ℕ, ◌-◌}
use lib.ListN.{length}
use Rattle.calculus.specs.Envelopes.Envelope.{windows}
use Rattle.calculus.specs.Regulators.Trace.{arrivals, slot_counts}
use Rattle.calculus.specs.Regulators.Regulator.{departed}
use Rattle.path_calculus.specs.Path.{Stages, path_envelope, path_admitted_row, path_dropped_row, path_stage_rows}
use Rattle.orders.specs.Verdict.{Verdict, Accepted}
use Rattle.refusals.specs.Limits.{delay_limit, buffer_limit}
use Rattle.orders.specs.Answered.{unless_refused}
use Rattle.orders.proofs.Answered.{verdict-accepted}
use Rattle.path.specs.Refusals.{tables_of, path_refusal}
use Rattle.path.specs.PathRun.{PathRan}
use Rattle.path.specs.PathLoss.{stage_part, StagesKeep, PathLowestLoss}
use Rattle.path.proofs.PathLowest.{last-departed, path_rows_keep, path_rows-lowest}
use Rattle.path.proofs.PathRows.{stages_given, tables_long}

module _ (stages : ℕ) (first second third fourth : List ℕ) (d q : ℕ) (trace ins drops outs : List ℕ) (verdict : Verdict) (ins' drops' outs' : List ℕ)
    (ran : PathRan stages (tables_of stages first second third fourth) d q trace ins drops outs verdict ins' drops' outs') (accepted : verdict ≡ Accepted) where
  abbrev tables : List (List ℕ)
  tables = tables_of stages first second third fourth

  no_number : path_refusal stages tables d q trace (length ins) (length drops) (length outs) ≡ 0
  no_number = verdict-accepted _ (sym ran.answered ∙ accepted)

  pub run_stages : Stages tables
  run_stages = stages_given first second third fourth stages d q trace (length ins) (length drops) outs no_number

  pub run-counted : length tables ≡ stages
  run-counted = tables_long first second third fourth stages d q trace (length ins) (length drops) outs no_number

  -- Demand 2: the lists are the path's rows.
  pub path_run_rows : (ins' ≡ path_admitted_row tables (delay_limit d) (buffer_limit q) trace) × (drops' ≡ path_dropped_row tables (delay_limit d) (buffer_limit q) trace)
      × (outs' ≡ path_stage_rows tables (delay_limit d) (buffer_limit q) trace)
  unfolding unless_refused
  path_run_rows = (rw no_number at ran.admits, rw no_number at ran.dropped, rw no_number at ran.departs)

  -- The last stage's rows are theorem 5.1's for the closure of the pointwise least of the closed envelopes.
  pub path_run-last : stage_part (length trace) (stages - 1) outs' ≡ slot_counts (departed (windows (path_envelope tables)) (delay_limit d) (buffer_limit q) (arrivals trace)) (length trace)
  path_run-last =
      subst (λ (n : ℕ). stage_part (length trace) (n - 1) outs' ≡ slot_counts (departed (windows (path_envelope tables)) (delay_limit d) (buffer_limit q) (arrivals trace)) (length trace))
      run-counted (rw path_run_rows.2 (last-departed tables run_stages (delay_limit d) (buffer_limit q) trace))

  -- Each stage's departures keep its own envelope and never pass the stage before.
  pub path_run_stages : StagesKeep tables (length trace) ins' outs'
  path_run_stages = rw (path_run_rows.0, path_run_rows.2) (path_rows_keep tables run_stages (delay_limit d) (buffer_limit q) trace)

  -- Demand 3: no pair that keeps every stage's envelope loses less.
  pub path_run-lowest-loss : PathLowestLoss tables (delay_limit d) (buffer_limit q) trace ins' drops' (stage_part (length trace) (stages - 1) outs')
  path_run-lowest-loss =
      subst (λ (n : ℕ). PathLowestLoss tables (delay_limit d) (buffer_limit q) trace ins' drops' (stage_part (length trace) (n - 1) outs')) run-counted
      (rw (path_run_rows.0, path_run_rows.1, path_run_rows.2) (path_rows-lowest tables run_stages (delay_limit d) (buffer_limit q) trace))
