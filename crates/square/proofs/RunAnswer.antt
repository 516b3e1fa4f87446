-- What a run over a square answers and leaves where it is accepted.
use mathlib.Core.Path.{◌≡◌, ◌∙◌}
use mathlib.Core.List.{List}
use Prim.Native.Nat.{ℕ, ◌≤◌}
use native.Mathlib.Omega.{arith}
use lib.ListN.{length, get_or}
use Rattle.orders.proofs.Answered.{filled-accepted}
use Rattle.square_calculus.specs.Square.{Square, closed_square}
use Rattle.square_calculus.specs.SquareRows.{Reached}
use Rattle.square_calculus.proofs.SquareRows.{closed_square_under, closed_square_closed, closed_square-admitted_row, closed_square-dropped_row, closed_square-departed_row}
use Rattle.orders.specs.Refusal.{◌or_else◌}
use Rattle.orders.specs.Verdict as verdict
use Rattle.orders.proofs.Refusals.{or_else_none}
use Rattle.refusals.specs.Limits.{delay_limit, buffer_limit, buffer_refusal, limits_refusal}
use Rattle.refusals.proofs.AcceptedSettings.{limits_none}
use Rattle.refusals.specs.Lengths.{lists_refusal}
use Rattle.refusals.proofs.Measured.{list_same}
use Rattle.refusals.proofs.TraceCounts.{counts_few}
use Rattle.square.specs.Refusals.{square_refusal, Small}
use Rattle.square.specs.SquareWork.{Running, RowsOf}
use Rattle.square.specs.RunRefusals.{reach_refusal, square_run_refusal}
use Rattle.square.specs.SquareRun.{SquareRan}
use Rattle.square.proofs.AcceptedSquare.{accepted_square, accepted_small}
use Rattle.square.proofs.RunReach.{reach-accepted}

-- What a run that gets no number is known to have.
pub record AcceptedRun (square : List (List ℕ)) (d q : ℕ) (trace : List ℕ) (ins drops outs : ℕ) : Type 0 where
  pub judged : square_refusal square ≡ 0
  pub buffered : buffer_refusal q ≡ 0
  pub reached : Reached (delay_limit d) (length trace)
  pub long_ins : ins ≡ length trace
  pub long_drops : drops ≡ length trace
  pub long_outs : outs ≡ length trace
  pub few : (k : ℕ) → get_or trace k 0 ≤ 1000000

pub run-accepted : (square : List (List ℕ)) (d q : ℕ) (trace : List ℕ) (ins drops outs : ℕ) → square_run_refusal square d q trace ins drops outs ≡ 0
    → AcceptedRun square d q trace ins drops outs
unfolding square_run_refusal
run-accepted square d q trace ins drops outs e =
    let (judged, others) = or_else_none (square_refusal square) _ e in
    let (limits, later) = or_else_none (limits_refusal d q) _ others in
    let (reached, places) = or_else_none (reach_refusal d (length trace)) _ later in
    let (lists, counts) = or_else_none (lists_refusal (length trace) ins or_else lists_refusal (length trace) drops or_else lists_refusal (length trace) outs) _ places in
    let (first, rest) = or_else_none (lists_refusal (length trace) ins) _ lists in
    let (second, third) = or_else_none (lists_refusal (length trace) drops) _ rest in
    record {
      judged = judged;
      buffered = (limits_none d q limits).1;
      reached = reach-accepted d (length trace) reached;
      long_ins = list_same (length trace) ins first;
      long_drops = list_same (length trace) drops second;
      long_outs = list_same (length trace) outs third;
      few = counts_few trace counts;
    }

-- A closed square has no larger entries.
closed_small : (square : List (List ℕ)) → Square square → Small square → Small (closed_square square)
unfolding Small
closed_small square fine low s t p r = omega (arith, closed_square_under square fine s t p r, low s t p r)

-- Its closed square is one to work on.
pub run_works : (square : List (List ℕ)) (d q : ℕ) (trace : List ℕ) (ins drops outs : ℕ) → square_run_refusal square d q trace ins drops outs ≡ 0
    → (bounds : List (List ℕ)) → bounds ≡ closed_square square → Running bounds d q trace ins drops outs
run_works square d q trace ins drops outs none bounds made =
    let ok = run-accepted square d q trace ins drops outs none in
    let fine : Square square = accepted_square square ok.judged in
    rw made
    (record {
      closed = closed_square_closed square fine;
      small = closed_small square fine (accepted_small square ok.judged);
      reached = ok.reached;
      few = ok.few;
      long_ins = ok.long_ins;
      long_drops = ok.long_drops;
      long_outs = ok.long_outs;
    })

module _ (square : List (List ℕ)) (d q : ℕ) (trace ins drops outs : List ℕ) where
  abbrev number : ℕ
  number = square_run_refusal square d q trace (length ins) (length drops) (length outs)

  -- An accepted run fills the lists with theorem 5.1's rows for the closure of F.
  pub run_filled : number ≡ 0 → (bounds : List (List ℕ)) → bounds ≡ closed_square square → (ins' drops' outs' : List ℕ)
      → RowsOf bounds (delay_limit d) (buffer_limit q) trace ins' drops' outs' → SquareRan square d q trace ins drops outs verdict.Accepted ins' drops' outs'
  run_filled none bounds made ins' drops' outs' rows =
      let ok = run-accepted square d q trace (length ins) (length drops) (length outs) none in
      let fine : Square square = accepted_square square ok.judged in
      let held : RowsOf (closed_square square) (delay_limit d) (buffer_limit q) trace ins' drops' outs' = rw made at rows in
      filled-accepted number _ _ _ ins drops outs none ins' drops' outs' (
        held.admits ∙ closed_square-admitted_row square fine (delay_limit d) (buffer_limit q) trace ok.reached,
        held.dropped ∙ closed_square-dropped_row square fine (delay_limit d) (buffer_limit q) trace ok.reached,
        held.departs ∙ closed_square-departed_row square fine (delay_limit d) (buffer_limit q) trace ok.reached,
      )
