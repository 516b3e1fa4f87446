-- What a fresh live regulator answers for a trace: it takes the trace's slots, call by call, and answers their counts.
use Rattle.std.specs.Prelude.{◌≡◌, List, ℕ}
use Rattle.orders.specs.Verdict.{Accepted}
use Rattle.calls.specs.Calls.{answers, trace_of, admitted_in, dropped_in, departed_in}
use Rattle.regulator.specs.Regulator.{set_up_of}
use Rattle.regulator.specs.LiveRun.{live_regulator}

pub record LiveRows (table : List ℕ) (d q : ℕ) (trace ins drops outs : List ℕ) : Type 0 where
  pub set_up : (set_up_of table d q).verdict ≡ Accepted
  pub traced : trace_of trace ≡ trace
  pub admits : admitted_in (answers live_regulator (set_up_of table d q).regulator trace) ≡ ins
  pub dropped : dropped_in (answers live_regulator (set_up_of table d q).regulator trace) ≡ drops
  pub departs : departed_in (answers live_regulator (set_up_of table d q).regulator trace) ≡ outs
