-- `put_accepted` lends parts of its lists as long as the file asks for.
use mathlib.Core.Path.{◌≡◌, sym, ◌∙◌}
use native.Mathlib.Omega.{arith}
use lib.ListN.{length, take, replicate}
use lib.Seq.{length-take-le}
use mathlib.Core.List.{List}
use Prim.Native.Nat.{ℕ}
use Rattle.stream.specs.Refusals.{file_refusal}
use Rattle.stream.proofs.FileJudged.{AcceptedSizes, file-accepted}
use Rattle.loss_table.proofs.PrintedFile.{file_asks, file_printed}
use Rattle.loss_table.proofs.file_text.put_accepted.Goals as goal

sizes_of : (file : List ℕ) → file_refusal file ≡ 0 → AcceptedSizes file
sizes_of file e = (file-accepted file e).sizes

pub slice_bounds-entries-end : goal.slice_bounds-entries-end
slice_bounds-entries-end c = omega (arith, c.entries_of.ensures, (sizes_of c.args.file.now c.requires.0).last_to)

pub slice_bounds-table-end : goal.slice_bounds-table-end
slice_bounds-table-end c =
    sym (length-take-le c.entries_of.result (replicate 65 0) (omega (arith, c.entries_of.ensures, (sizes_of c.args.file.now c.requires.0).last_to)))

pub slice_bounds-counts-end : goal.slice_bounds-counts-end
slice_bounds-counts-end c = omega (arith, c.slots_of.ensures, (sizes_of c.args.file.now c.requires.0).few_slots)

pub slice_bounds-arrived-end : goal.slice_bounds-arrived-end
slice_bounds-arrived-end c =
    sym (length-take-le c.slots_of.result.0 (replicate 4096 0) (omega (arith, c.slots_of.ensures, (sizes_of c.args.file.now c.requires.0).few_slots)))

pub put_run-requires : goal.put_run-requires
put_run-requires c =
    let sizes : AcceptedSizes c.args.file.now = (file-accepted c.args.file.now c.requires.0).sizes in
    let many : length (take c.slots_of.result.0 (replicate 4096 0)) ≡ c.slots_of.result.0 = length-take-le c.slots_of.result.0 (replicate 4096 0)
    (omega (arith, c.slots_of.ensures, sizes.few_slots)) in
    let entries : length (take c.entries_of.result (replicate 65 0)) ≡ c.entries_of.result = length-take-le c.entries_of.result (replicate 65 0)
    (omega (arith, c.entries_of.ensures, sizes.last_to)) in (
      file_asks c.args.file.now _ _ c.requires.0 (entries ∙ c.entries_of.ensures)
          (many ∙ c.slots_of.ensures) c.table_of.ensures c.arrivals_of.ensures
          c.delay_of.ensures c.buffer_of.ensures,
      c.requires.1,
    )

pub returns : goal.returns
returns c =
    let sizes : AcceptedSizes c.args.file.now = (file-accepted c.args.file.now c.requires.0).sizes in
    let many : length (take c.slots_of.result.0 (replicate 4096 0)) ≡ c.slots_of.result.0 = length-take-le c.slots_of.result.0 (replicate 4096 0)
    (omega (arith, c.slots_of.ensures, sizes.few_slots)) in
    let entries : length (take c.entries_of.result (replicate 65 0)) ≡ c.entries_of.result = length-take-le c.entries_of.result (replicate 65 0)
    (omega (arith, c.entries_of.ensures, sizes.last_to)) in
    file_printed c.args.file.now _ _ c.requires.0 (entries ∙ c.entries_of.ensures)
    (many ∙ c.slots_of.ensures) c.table_of.ensures c.arrivals_of.ensures
    c.delay_of.ensures c.buffer_of.ensures
    c.put_run.ensures
