-- `near` fills the first places of two rows, newest first, and turns both round.
use mathlib.Core.Path.{◌≡◌, sym, ap, ◌∙◌}
use mathlib.Core.List.{List, ◌++◌}
use Prim.Native.Nat.{ℕ, ◌+◌}
use native.Mathlib.Omega.{arith}
use lib.ListN.{length, take, drop, replicate, length-replicate}
use lib.Seq.{length-take-le}
use Rattle.calculus.specs.Numbers.Lists.{newest_first}
use Rattle.envelope.specs.ClosureRow.{turned_row}
use Rattle.envelope.specs.Envelope.{bound, piece_at, near_to, pieces_to}
use Rattle.envelope.proofs.Answers.{turned-to}
use Rattle.envelope.proofs.LastPlaceFirst.{placed_all}
use Rattle.orders.proofs.Given.{accepted_ok}
use Rattle.envelope.proofs.Filled.{row_bounds, row-accepted}
use Rattle.envelope.proofs.envelope.near.Goals as goal

pub unwrap-requires : goal.unwrap-requires
unwrap-requires c =
    let long = length-take-le {A = ℕ} (c.min-count.result + 1) (replicate 129 0) (omega (arith, length-replicate {A = ℕ} 129 0)) in
    accepted_ok c.fill.result (row-accepted c.args.e _ _ (omega (arith, long)) c.fill.ensures)

pub returns : goal.returns
unfolding near_to pieces_to
returns c =
    let e = c.args.e in
    let row = (replicate 129 0) in
    let pieces = (replicate 129 0) in
    let count = c.min-count.result + 1 in
    let reach = ap (λ (n : ℕ). n + 1) c.min-count.ensures in
    let long : length (take count row) ≡ count = length-take-le count row (omega (arith, length-replicate {A = ℕ} 129 0)) in
    let as_long : length (take count pieces) ≡ count = length-take-le count pieces (omega (arith, length-replicate {A = ℕ} 129 0)) in
    let (filled, pieced) = row_bounds e (take count row) (take count pieces) (omega arith) c.fill.ensures in (
      c.turned.ensures
          ∙ ap (λ (l : List ℕ). turned_row (l ++ drop count row) count) (filled ∙ ap (newest_first (bound e)) long)
          ∙ turned-to (bound e) (drop count row) count c.args.last reach,
      c.turned-2.ensures
          ∙ ap (λ (l : List ℕ). turned_row (l ++ drop count pieces) count)
          (pieced ∙ placed_all (piece_at e) (length (take count row)) (take count pieces) (as_long ∙ sym long) ∙ ap (newest_first (piece_at e)) long)
          ∙ turned-to (piece_at e) (drop count pieces) count c.args.last reach,
    )
