-- What a pencil's run that gets no number is known to have.
use mathlib.Core.Path.{◌≡◌, sym, ap, ◌∙◌}
use mathlib.Core.List.{List}
use Prim.Native.Nat.{ℕ, ◌≤◌, ◌<◌}
use native.Mathlib.Omega.{arith}
use lib.ListN.{length}
use Rattle.std.proofs.Common.{Result, Ok}
use Rattle.envelope.specs.declared.table.Envelope.{Envelope}
use Rattle.orders.specs.declared.refusal.Refusal.{Refusal}
use Rattle.settings.specs.Taken.{envelope_from, taken, Taken, taken_given}
use Rattle.envelope.specs.Envelope.{near_row}
use Rattle.orders.specs.Refusal.{◌or_else◌}
use Rattle.refusals.specs.Table.{table_refusal}
use Rattle.orders.proofs.Refusals.{or_else_none}
use Rattle.settings.proofs.TakenTable.{taken-accepted}
use Rattle.refusals.specs.Limits.{limits_refusal, set_up_refusal}
use Rattle.refusals.specs.Lengths.{short_refusal, lists_refusal, counts_refusal}
use Rattle.refusals.proofs.AcceptedSettings.{set_up-accepted, limits_none, buffer_fits, set_up-table}
use Rattle.refusals.proofs.Measured.{short_most, list_same}
use Rattle.refusals.proofs.TraceCounts.{counts_few}
use Rattle.pencil.specs.PencilWork.{Working}
use Rattle.pencil.specs.PencilRun.{pencil_refusal}

pub record AcceptedPencil (table : List ℕ) (d q : ℕ) (trace : List ℕ) (ins drops outs : ℕ) : Type 0 where
  pub set_up : set_up_refusal table d q ≡ 0
  pub short : length trace ≤ 5
  pub long_ins : ins ≡ length trace
  pub long_drops : drops ≡ length trace
  pub long_outs : outs ≡ length trace
  pub counts : counts_refusal trace ≡ 0

pub pencil-accepted : (table : List ℕ) (d q : ℕ) (trace : List ℕ) (ins drops outs : ℕ) → pencil_refusal table d q trace ins drops outs ≡ 0
    → AcceptedPencil table d q trace ins drops outs
unfolding pencil_refusal
pencil-accepted table d q trace ins drops outs e =
    let (set, later) = or_else_none (set_up_refusal table d q) _ e in
    let (short, rest) = or_else_none (short_refusal (length trace)) _ later in
    let (lists, counts) = or_else_none (lists_refusal (length trace) ins or_else lists_refusal (length trace) drops or_else lists_refusal (length trace) outs) _ rest in
    let (first, others) = or_else_none (lists_refusal (length trace) ins) _ lists in
    let (second, third) = or_else_none (lists_refusal (length trace) drops) _ others in
    record {
      set_up = set;
      short = short_most (length trace) short;
      long_ins = list_same (length trace) ins first;
      long_drops = list_same (length trace) drops second;
      long_outs = list_same (length trace) outs third;
      counts = counts;
    }

module _ (table : List ℕ) (d q : ℕ) (trace : List ℕ) (ins drops outs : ℕ) (none : pencil_refusal table d q trace ins drops outs ≡ 0) where
  ok : AcceptedPencil table d q trace ins drops outs
  ok = pencil-accepted table d q trace ins drops outs none

  -- Its buffer limit fits in 32 bits,
  pub pencil-buffer : q < 4294967296
  unfolding set_up_refusal
  pencil-buffer =
      let (tabled, limits) = or_else_none (table_refusal table) (limits_refusal d q) ok.set_up in
      buffer_fits q (limits_none d q limits).1

  -- its table is accepted,
  pub pencil-tabled : table_refusal table ≡ 0
  pencil-tabled = set_up-table table d q ok.set_up

  -- and with f, as it is taken from the table, its slots can be worked.
  pub pencil_works : (given : Result Envelope Refusal) (envelope : Envelope) → taken_given given ≡ taken table → given ≡ Ok envelope
      → (near : List ℕ) → near ≡ near_row envelope → Working table near d q trace (length trace)
  unfolding taken_given
  pencil_works given envelope made whole near kept =
      let from : envelope ≡ envelope_from table =
      ap (λ (z : Taken). z.envelope) (ap taken_given (sym whole) ∙ made ∙ sym (taken-accepted table pencil-tabled)) in
      record {
        tabled = pencil-tabled;
        kept = kept ∙ ap near_row from;
        short = ok.short;
        inside = omega arith;
        few = counts_few trace ok.counts;
        delayed = (set_up-accepted table d q ok.set_up).delayed;
      }
