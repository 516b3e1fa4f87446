-- `put_run` lends parts of its lists as long as the trace, fills them and prints them.
use Prim.Native.Nat.{ℕ}
use mathlib.Core.Path.{◌≡◌, sym}
use mathlib.Core.List.{List}
use lib.ListN.{length, replicate}
use lib.Seq.{length-take-le}
use Rattle.trace.specs.RunWork.{Workable}
use Rattle.trace.proofs.RunAnswer.{trace-accepted}
use Rattle.loss_table.proofs.PrintedFile.{run_printed}
use Rattle.loss_table.proofs.file_text.put_run.Goals as goal

pub slice_bounds-ins-end : goal.slice_bounds-ins-end
slice_bounds-ins-end c = (trace-accepted c.args.arrived.now _ _ _ c.requires.0.traced).short

pub slice_bounds-admitted-end : goal.slice_bounds-admitted-end
slice_bounds-admitted-end c = sym (length-take-le (length c.args.arrived.now) (replicate 4096 0) (trace-accepted c.args.arrived.now _ _ _ c.requires.0.traced).short)

pub slice_bounds-drops-end : goal.slice_bounds-drops-end
slice_bounds-drops-end c = (trace-accepted c.args.arrived.now _ _ _ c.requires.0.traced).short

pub slice_bounds-dropped-end : goal.slice_bounds-dropped-end
slice_bounds-dropped-end c = sym (length-take-le (length c.args.arrived.now) (replicate 4096 0) (trace-accepted c.args.arrived.now _ _ _ c.requires.0.traced).short)

pub slice_bounds-outs-end : goal.slice_bounds-outs-end
slice_bounds-outs-end c = (trace-accepted c.args.arrived.now _ _ _ c.requires.0.traced).short

pub slice_bounds-departed-end : goal.slice_bounds-departed-end
slice_bounds-departed-end c = sym (length-take-le (length c.args.arrived.now) (replicate 4096 0) (trace-accepted c.args.arrived.now _ _ _ c.requires.0.traced).short)

workable : (table trace ins drops outs : List ℕ) (d q : ℕ) → length ins ≡ length trace → length drops ≡ length trace → length outs ≡ length trace
    → Workable table d q trace (length trace) (length trace) (length trace) → Workable table d q trace (length ins) (length drops) (length outs)
workable table trace ins drops outs d q e f g w = rw (e, f, g) w

pub fill_rows-requires : goal.fill_rows-requires
fill_rows-requires c =
    let z = c.args in
    let long = length-take-le (length z.arrived.now) (replicate 4096 0) (trace-accepted z.arrived.now _ _ _ c.requires.0.traced).short in
    workable z.table.now z.arrived.now _ _ _ z.delay.0 z.buffer.0 long long long c.requires.0

pub returns : goal.returns
returns c =
    let z = c.args in
    run_printed z.table.now z.delay.0 z.buffer.0 z.arrived.now c.requires.0 c.fill_rows.ensures c.requires.1
    c.put_table.ensures
