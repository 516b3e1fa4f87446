-- Only slots up to T + d are looked at, T with no delay limit: two accepted runs over squares that agree there leave the same lists.
use mathlib.Core.Path.{◌≡◌, refl, sym, ◌∙◌}
use mathlib.Core.List.{List}
use Prim.Native.Nat.{ℕ, ◌≤◌, ◌<◌}
use lib.ListN.{length}
use Rattle.square_calculus.specs.Square.{square_entry}
use Rattle.square_calculus.specs.SquareRows.{last_looked}
use Rattle.square_calculus.proofs.SquareNear.{alike-admitted_row, alike-dropped_row, alike-departed_row}
use Rattle.orders.specs.Verdict.{Accepted}
use Rattle.refusals.specs.Limits.{delay_limit, buffer_limit}
use Rattle.orders.proofs.Answered.{accepted_none}
use Rattle.square.specs.SquareRun.{SquareRan}
use Rattle.square.proofs.RunAnswer.{run-accepted}
use Rattle.square.proofs.SquareRunLowestLoss.{square_run_rows}

pub square_run-near : (square other : List (List ℕ)) (d q : ℕ) (trace ins drops outs ins' drops' outs' a b c a' b' c' : List ℕ)
    → SquareRan square d q trace ins drops outs Accepted ins' drops' outs' → SquareRan other d q trace a b c Accepted a' b' c'
    → ((s t : ℕ) → s < t → t ≤ last_looked (delay_limit d) (length trace) → square_entry square s t ≡ square_entry other s t)
    → (ins' ≡ a') × (drops' ≡ b') × (outs' ≡ c')
square_run-near square other d q trace ins drops outs ins' drops' outs' a b c a' b' c' ran also alike =
    let reached = (run-accepted square d q trace (length ins) (length drops) (length outs) (accepted_none _ ran.answered)).reached in
    let rows = square_run_rows square d q trace ins drops outs Accepted ins' drops' outs' ran refl in
    let others = square_run_rows other d q trace a b c Accepted a' b' c' also refl in (
      rows.0 ∙ alike-admitted_row square other (delay_limit d) (buffer_limit q) trace reached alike ∙ sym others.0,
      rows.1 ∙ alike-dropped_row square other (delay_limit d) (buffer_limit q) trace reached alike ∙ sym others.1,
      rows.2 ∙ alike-departed_row square other (delay_limit d) (buffer_limit q) trace reached alike ∙ sym others.2,
    )
