-- A square made from a closed table is taken wherever the table is: where the table's run is accepted, f(32) is at most 1,000,000 and the
-- square reaches the trace, so is the square's run.
use mathlib.Core.Path.{◌≡◌, refl, sym}
use mathlib.Core.List.{List}
use Prim.Native.Nat.{ℕ, ◌≤◌}
use native.Mathlib.Decide.{ℕ_discrete}
use lib.ListN.{length}
use borrow.Author.Tests.{ne_eqb}
use Rattle.calculus.specs.Numbers.Limit.{limit_unless, delay_limit}
use Rattle.calculus.specs.Envelopes.Envelope.{windows}
use Rattle.calculus.specs.Regulators.Rows.{envelope_of}
use Rattle.square_calculus.specs.Square.{square_of}
use Rattle.square_calculus.specs.SquareRows.{Reached}
use Rattle.orders.specs.Refusal.{◌or_else◌}
use Rattle.refusals.specs.Table.{table_refusal}
use Rattle.refusals.specs.Limits.{limits_refusal, set_up_refusal}
use Rattle.refusals.specs.Lengths.{length_refusal, lists_refusal}
use Rattle.orders.proofs.Refusals.{or_else_none}
use Rattle.refusals.proofs.Measured.{same_list}
use Rattle.refusals.specs.WholeTrace.{trace_refusal, run_refusal}
use Rattle.square.specs.RunRefusals.{reach_refusal, square_run_refusal}
use Rattle.square.proofs.RunReach.{reach_none, reach_fine}
use Rattle.square.proofs.AcceptedSquare.{made_fine}

-- A trace that the square reaches gets no 20.
reach-taken : (d slots : ℕ) → Reached (delay_limit d) slots → reach_refusal d slots ≡ 0
unfolding delay_limit limit_unless
reach-taken d slots reached =
    elim (ℕ_discrete d 255) [
      | yes none ↦ sym (reach_none d slots reached.slots none)
      | no some ↦ sym (reach_fine d slots some (reached.delayed d (rw (ne_eqb d 255 some) refl)))
    ]

module _ (table : List ℕ) (d q : ℕ) (trace : List ℕ) (a b c ins drops outs : ℕ) where
  pub square_run-taken : run_refusal table d q trace a b c ≡ 0 → envelope_of table 32 ≤ 1000000 → Reached (delay_limit d) (length trace)
      → ins ≡ length trace → drops ≡ length trace → outs ≡ length trace
      → square_run_refusal (square_of (windows (envelope_of table))) d q trace ins drops outs ≡ 0
  unfolding run_refusal set_up_refusal trace_refusal square_run_refusal ◌or_else◌
  square_run-taken accepted low reached long_ins long_drops long_outs =
      let (set_up, traced) = or_else_none (table_refusal table or_else limits_refusal d q) _ accepted in
      let (fine, limits) = or_else_none (table_refusal table) _ set_up in
      let (short, places) = or_else_none (length_refusal (length trace)) _ traced in
      let (lists, counts) = or_else_none (lists_refusal (length trace) a or_else lists_refusal (length trace) b or_else lists_refusal (length trace) c) _ places in
      rw (
        made_fine table fine low,
        limits,
        reach-taken d (length trace) reached,
        same_list (length trace) ins long_ins,
        same_list (length trace) drops long_drops,
        same_list (length trace) outs long_outs,
      ) counts
