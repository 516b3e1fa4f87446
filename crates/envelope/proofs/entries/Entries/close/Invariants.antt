-- `close` puts each window's value before the earlier ones, and its piece at the same place.
use mathlib.Core.Path.{◌≡◌}
use Prim.Native.Nat.{◌-◌, ◌≤◌}
use lib.ListN.{length, drop}
use Rattle.calculus.specs.Numbers.Lists.{newest_first}
use Rattle.envelope.specs.ClosureRow.{closed_by, piece_by, placed}
use Rattle.envelope.proofs.entries.Entries.close.Given as goal

abbrev pub invariant-loop-n : goal.invariant-loop-n
invariant-loop-n l =
    let f = closed_by l.self.table.now l.self.last in
    (1 ≤ l.n) × (l.n ≤ l.len) × (l.len ≡ length l.initial.row) × (length l.row ≡ l.len) × (l.newest ≡ f (l.n - 1)) ×
    (drop (l.len - l.n) l.row ≡ newest_first f l.n) ×
    (l.pieces ≡ placed (piece_by l.self.table.now l.self.last) l.len l.initial.pieces l.n)
