-- `first_piece` goes up from window 1, and stops no later than at the piece.
use Prim.Native.Nat.{◌-◌, ◌≤◌, ◌<◌}
use lib.ListN.{length}
use Rattle.envelope.specs.ClosureRow.{piece_by}
use Rattle.envelope.proofs.entries.Entries.first_piece.Given as goal

abbrev pub invariant-loop-k : goal.invariant-loop-k
invariant-loop-k l =
    let piece = piece_by l.self.table.now l.self.last (length l.row - 1) in
    (2 ≤ length l.row) × (1 ≤ l.k) × (l.k ≤ piece) × (piece ≤ l.self.last) × (piece < length l.row)

abbrev pub decreases-loop-k : goal.decreases-loop-k
decreases-loop-k l = piece_by l.self.table.now l.self.last (length l.row - 1) - l.k
