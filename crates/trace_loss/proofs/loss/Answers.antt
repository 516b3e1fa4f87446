-- `loss` looks first whether the run accepts what it is given, and runs it in parts of lists of its own.
use Rattle.std.proofs.Common.{◌≡◌, ◌∙◌, ℕ, ◌≤◌, List, length, take, replicate, refl, arith, rules, Result, is_err, false, sym}
use Rattle.std.proofs.lemmas.List.{length-replicate}
use lib.Seq.{length-take-le}
use Rattle.orders.specs.declared.refusal.Refusal.{Refusal}
use Rattle.orders.specs.Answered.{number_given}
use Rattle.orders.proofs.Given.{number_of_ok, number_of_err}
use Rattle.refusals.specs.WholeTrace.{run_refusal}
use Rattle.trace_loss.proofs.SummedLoss.{run_short, run_parts}
use Rattle.trace_loss.proofs.TraceLoss.{loss_told, loss_refused}
use Rattle.trace_loss.proofs.loss.Goals as goal

pub returns-then-is_err : goal.returns-then-is_err
returns-then-is_err c = loss_refused _ _ _ _ _ refl (number_of_err c.run_refusal.result _ c.run_refusal.ensures (search rules))

-- An accepted run has at most 4,096 slots ..
short : (table : List ℕ) (d q : ℕ) (trace : List ℕ) (given : Result (Unit {0}) Refusal) → number_given given ≡ run_refusal table d q trace (length trace) (length trace) (length trace) → is_err given ≡ false → length trace ≤ 4096
short table d q trace given numbered ok = run_short table d q trace _ _ _ (number_of_ok given _ numbered ok)

-- .. which a blank list has.
part_long : (n : ℕ) → n ≤ 4096 → n ≡ length (take n (replicate {A = ℕ} 4096 0))
part_long n few = sym (length-take-le n (replicate {A = ℕ} 4096 0) (omega (arith, length-replicate {A = ℕ} 4096 0)))

pub slice_bounds-admitted-end : goal.slice_bounds-admitted-end
slice_bounds-admitted-end c = let z = c.args in short z.table.now z.delay.0 z.buffer.0 z.arrivals.now c.run_refusal.result c.run_refusal.ensures (search rules)

pub slice_bounds-loss_in-end : goal.slice_bounds-loss_in-end
slice_bounds-loss_in-end c =
    let z = c.args in part_long _ (short z.table.now z.delay.0 z.buffer.0 z.arrivals.now c.run_refusal.result c.run_refusal.ensures (search rules))

pub slice_bounds-dropped-end : goal.slice_bounds-dropped-end
slice_bounds-dropped-end c = let z = c.args in short z.table.now z.delay.0 z.buffer.0 z.arrivals.now c.run_refusal.result c.run_refusal.ensures (search rules)

pub slice_bounds-loss_in-end-2 : goal.slice_bounds-loss_in-end-2
slice_bounds-loss_in-end-2 c =
    let z = c.args in part_long _ (short z.table.now z.delay.0 z.buffer.0 z.arrivals.now c.run_refusal.result c.run_refusal.ensures (search rules))

pub slice_bounds-departed-end : goal.slice_bounds-departed-end
slice_bounds-departed-end c = let z = c.args in short z.table.now z.delay.0 z.buffer.0 z.arrivals.now c.run_refusal.result c.run_refusal.ensures (search rules)

pub slice_bounds-loss_in-end-3 : goal.slice_bounds-loss_in-end-3
slice_bounds-loss_in-end-3 c =
    let z = c.args in part_long _ (short z.table.now z.delay.0 z.buffer.0 z.arrivals.now c.run_refusal.result c.run_refusal.ensures (search rules))

pub loss_in-requires : goal.loss_in-requires
loss_in-requires c =
    let z = c.args in
    let none : run_refusal z.table.now z.delay.0 z.buffer.0 z.arrivals.now (length z.arrivals.now) (length z.arrivals.now) (length z.arrivals.now) ≡ 0 = number_of_ok c.run_refusal.result _ c.run_refusal.ensures (search rules) in
    let blank = length-replicate {A = ℕ} 4096 0 in
    run_parts z.table.now z.delay.0 z.buffer.0 z.arrivals.now none (replicate 4096 0) (replicate 4096 0) (replicate 4096 0) blank blank blank

pub returns : goal.returns
returns c =
    let z = c.args in
    let none : run_refusal z.table.now z.delay.0 z.buffer.0 z.arrivals.now (length z.arrivals.now) (length z.arrivals.now) (length z.arrivals.now) ≡ 0 = number_of_ok c.run_refusal.result _ c.run_refusal.ensures (search rules) in
    loss_told z.table.now z.delay.0 z.buffer.0 z.arrivals.now c.loss_in.result none c.loss_in.ensures
