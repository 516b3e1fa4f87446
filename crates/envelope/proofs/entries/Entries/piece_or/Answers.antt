-- `piece_or` takes the piece that the sums tell, or looks for it.
use mathlib.Core.Path.{◌∙◌}
use Prim.Native.Nat.{◌-◌, min}
use native.Mathlib.Omega.{arith}
use lib.ListN.{length}
use Rattle.envelope.proofs.FirstPiece.{piece_by-zero}
use Rattle.envelope.proofs.ToldPiece.{told-is-first, told-is-last}
use borrow.Author.Rules.{rules}
use Rattle.envelope.proofs.entries.Entries.piece_or.Goals as goal

pub returns-then-worked : goal.returns-then-worked
returns-then-worked c = let worked = c.args.worked in told-is-first worked.first worked.between worked.f _ _ c.requires.3 (search rules)

pub returns-then-worked-2 : goal.returns-then-worked-2
returns-then-worked-2 c =
    let z = c.args in
    let e = z.self.now in
    let pre = c.requires in
    let worked = z.worked in
    c.min.ensures
    ∙ told-is-last worked.first worked.between worked.f (min (length z.row.now - 1) e.last) _ pre.3 (search rules) (search rules)
    (λ none. none ∙ piece_by-zero e.table.now e.last (length z.row.now - 1) (omega (arith, e.some)))
