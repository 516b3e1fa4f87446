-- What is printed for an accepted file: the heading, for each slot its arrivals, admitted, dropped and departed packets and the
-- held total of theorem 5.1, and the line of their totals.
use mathlib.Core.Path.{◌≡◌, refl, sym, ap₂, ◌∙◌}
use mathlib.Core.List.{List, ◌++◌}
use Prim.Native.Nat.{ℕ, zero, suc, ◌-◌, ◌≤◌, ◌<◌}
use native.Mathlib.Omega.{arith}
use lib.ListN.{length, get_or}
use Rattle.calculus.specs.Numbers.Limit.{Limit}
use Rattle.calculus.specs.Losses.LossCurve.{LowestLoss}
use Rattle.calculus.specs.Envelopes.Envelope.{windows, ClosedEnvelope}
use Rattle.calculus.specs.Regulators.Regulator.{held}
use Rattle.calculus.specs.Regulators.Trace.{arrivals}
use Rattle.calculus.specs.Regulators.Rows.{envelope_of, admitted_by, departed_by, lost_by, held_by, admitted_row, dropped_row, departed_row}
use Rattle.calculus.proofs.Envelopes.Envelope.{closure_envelope}
use Rattle.calculus.proofs.Losses.LossCurve.{counts-lowest}
use Rattle.calculus.proofs.Regulators.Regulator.{lost-slot}
use Rattle.calculus.proofs.Regulators.Trace.{slot_counts_at, arrived-sum}
use Rattle.refusals.proofs.TableJudged.{AcceptedTable, table-accepted, table_given}
use Rattle.refusals.specs.Limits.{delay_limit, buffer_limit}
use Rattle.stream.specs.Format.{slots, delay, buffer, table_of, file_trace}
use Rattle.stream.specs.Refusals.{file_refusal}
use Rattle.stream.proofs.FileJudged.{length-trace, file-accepted}
use Rattle.loss_table.proofs.FileWorkable.{table_none}
use Rattle.text.specs.Lines.{heading, held_after, slot_line, slot_lines, total_line, table_text}
use Rattle.loss_table.specs.Text.{text_by, printed_text}
use Rattle.loss_table.specs.PrintedRows.{admitted_total, departed_total, held_total, row_line, row_lines, sum_line}

module _ (file : List ℕ) (accepted : file_refusal file ≡ 0) where
  -- what the file holds, and theorem 5.1's rows for it
  abbrev d : Limit
  d = delay_limit (delay file)

  abbrev q : Limit
  q = buffer_limit (buffer file)

  abbrev trace : List ℕ
  trace = file_trace file

  abbrev ins : List ℕ
  ins = admitted_row (table_of file) d q trace

  abbrev drops : List ℕ
  drops = dropped_row (table_of file) d q trace

  abbrev outs : List ℕ
  outs = departed_row (table_of file) d q trace

  tabled : AcceptedTable (table_of file)
  tabled = table-accepted (table_of file) (table_none file (file-accepted file accepted))

  abbrev F : ℕ → ℕ → ℕ
  F = windows (envelope_of (table_of file))

  closed : ClosedEnvelope F
  unfolding envelope_of
  closed = closure_envelope _ _ (table_given (table_of file) tabled)

  lowest : LowestLoss F d q trace ins drops outs
  unfolding admitted_row dropped_row departed_row admitted_by departed_by lost_by
  lowest = counts-lowest F closed d q trace

  -- Held after slot t is theorem 5.1's X(t) - Y(t).
  held_total_lem : (t : ℕ) → t ≤ length trace → held_after ins outs t ≡ held_total file t
  unfolding held_after held_by held admitted_by departed_by
  held_total_lem t p = ap₂ ◌-◌ (lowest.admitted_total t p) (lowest.departed_total t p)

  -- Dropped in slot t: arrived less admitted.
  dropped_in_lem : (t : ℕ) → t < length trace
      → get_or drops t 0 ≡ arrivals trace (suc t) - (admitted_total file (suc t) - admitted_total file t)
  unfolding dropped_row lost_by admitted_by
  dropped_in_lem t p =
      slot_counts_at (lost_by (table_of file) d q trace) (length trace) t p
      ∙ sym (lost-slot F closed d q (arrivals trace) t)

  -- The line of a slot, from the lists, is the line from the totals.
  slot-line : (t : ℕ) → t < length trace → slot_line trace ins drops outs t ≡ row_line file (suc t)
  unfolding slot_line row_line arrivals admitted_row departed_row
  slot-line t p =
      let back : suc t - 1 ≡ t = omega arith in
      rw (back, slot_counts_at (admitted_total file) (length trace) t p, slot_counts_at (departed_total file) (length trace) t p, dropped_in_lem t p, held_total_lem (suc t) p)

  slot_lines_lem : (t : ℕ) → t ≤ length trace → slot_lines trace ins drops outs t ≡ row_lines file t
  unfolding slot_lines row_lines
  slot_lines_lem zero p = refl
  slot_lines_lem (suc t) p = ap₂ ◌++◌ (slot_lines_lem t (omega arith)) (slot-line t p)

  -- So is the line of totals.
  total-line : (t : ℕ) → t ≤ length trace → total_line trace ins drops outs t ≡ sum_line file t
  unfolding total_line sum_line admitted_by departed_by
  total-line t p =
      rw (← arrived-sum trace t, lowest.admitted_total t p, lowest.dropped_total t p, lowest.departed_total t p, held_total_lem t p)

  -- An accepted file prints the heading, one line for each slot, and the line of totals.
  pub printed_rows : printed_text file ≡ heading ++ (row_lines file (slots file) ++ sum_line file (slots file))
  unfolding printed_text text_by table_text
  printed_rows = rw (accepted, ← length-trace file, slot_lines_lem (length trace) (omega arith), total-line (length trace) (omega arith))
