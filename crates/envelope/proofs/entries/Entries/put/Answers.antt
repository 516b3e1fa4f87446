-- `put` writes f, and its piece where there is a place; else the list is as it was.
use Rattle.envelope.specs.ClosureRow.{closed_by}
use Rattle.envelope.proofs.ClosureRow.{part-window, part_filled}
use Rattle.envelope.proofs.FirstPiece.{told_at}
use Rattle.envelope.proofs.entries.Entries.put.Goals as goal

pub piece_or-requires : goal.piece_or-requires
piece_or-requires c =
    let z = c.args in
    let e = z.self.now in
    let pre = c.requires in
    let h = closed_by e.table.now e.last in
    let window = part-window h z.row.now z.place z.worked.f pre.0 pre.2 pre.3 in
    let (some, short, filled) = part_filled h z.row.now z.place z.worked.f pre.0 pre.2 pre.3 pre.1 in
    let told = told_at e.table.now e.last z.worked.first z.worked.between z.worked.f window pre.4 in
    (some, short, filled, told)
