-- A path of one stage lists what a fresh live regulator with its table answers. Nothing is assumed of a run but what its contract says.
use mathlib.Core.List.{List}
use Prim.Native.Nat.{ℕ}
use native.Mathlib.Omega.{arith}
use mathlib.Core.Path.{refl}
use lib.ListN.{length}
use Rattle.orders.specs.Verdict.{Accepted}
use Rattle.orders.proofs.Answered.{accepted_none}
use Rattle.trace.specs.WholeTrace.{Ran}
use Rattle.trace.proofs.RunAnswer.{run-accepted}
use Rattle.trace.proofs.RunLowestLoss.{run_rows_lem}
use Rattle.path.specs.Refusals.{tables_of}
use Rattle.path.specs.PathRun.{PathRan}
use Rattle.path.proofs.PathRunSingle.{path_run_single}
use Rattle.regulator.specs.LiveRows.{LiveRows}
use Rattle.regulator.proofs.LiveRows.{live_rows}

-- What a whole-trace run lists is what the live regulator answers.
pub run_live : (table : List ℕ) (d q : ℕ) (trace ins drops outs ins' drops' outs' : List ℕ) → Ran table d q trace ins drops outs Accepted ins' drops' outs'
    → LiveRows table d q trace ins' drops' outs'
run_live table d q trace ins drops outs ins' drops' outs' ran =
    let ok = run-accepted table d q trace (length ins) (length drops) (length outs) (accepted_none _ ran.answered) in
    let (admits, dropped, departs) = run_rows_lem table d q trace ins drops outs Accepted ins' drops' outs' ran refl in
    rw (admits, dropped, departs) (live_rows table d q trace ok.set_up (omega (arith, ok.traced.short)) ok.traced.few)

pub path_live : (first second third fourth : List ℕ) (d q : ℕ) (trace ins drops outs ins' drops' outs' : List ℕ)
    → PathRan 1 (tables_of 1 first second third fourth) d q trace ins drops outs Accepted ins' drops' outs' → LiveRows first d q trace ins' drops' outs'
path_live first second third fourth d q trace ins drops outs ins' drops' outs' ran =
    run_live first d q trace ins drops outs ins' drops' outs' (path_run_single first second third fourth d q trace ins drops outs Accepted ins' drops' outs' ran)
