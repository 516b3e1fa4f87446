-- `first_piece` goes up from window 1, and stops no later than at the piece.
use Prim.Native.Nat.{◌-◌}
use native.Mathlib.Omega.{arith}
use lib.ListN.{length}
use Rattle.envelope.proofs.FirstPiece.{piece_by-zero, piece_fits, piece_there, piece_later, piece_here}
use Rattle.envelope.proofs.entries.Entries.first_piece.Goals as goal

pub returns-then-row-eq1 : goal.returns-then-row-eq1
returns-then-row-eq1 c = piece_by-zero c.args.self.now.table.now c.args.self.now.last (length c.args.row.now - 1) (omega arith)

pub loop-k-init : goal.loop-k-init
loop-k-init c =
    let z = c.args in
    let e = z.self.now in
    let pre = c.requires in
    let (from, to, inside, makes) = piece_there e.table.now e.last z.row.now e.some (omega arith) pre.2 in
    (omega arith, omega arith, from, to, inside)

pub overflow_add-self : goal.overflow_add-self
overflow_add-self c =
    let z = c.args in
    let e = z.self.now in
    let pre = c.requires in
    let l = c.loop-k in
    omega (arith, piece_fits e.table.now e.last z.row.now e.some l.invariant.0 pre.2 pre.1 e.small l.k (omega arith))

pub loop-k-smaller : goal.loop-k-smaller
loop-k-smaller c =
    let z = c.args in
    let e = z.self.now in
    let pre = c.requires in
    let l = c.loop-k in
    omega (arith, piece_later e.table.now e.last z.row.now e.some l.invariant.0 pre.2 l.k l.invariant.2 c.loop-k-test.true)

pub loop-k-preserved : goal.loop-k-preserved
loop-k-preserved c =
    let z = c.args in
    let e = z.self.now in
    let pre = c.requires in
    let l = c.loop-k in
    let later = piece_later e.table.now e.last z.row.now e.some l.invariant.0 pre.2 l.k l.invariant.2 c.loop-k-test.true in
    (l.invariant.0, omega arith, later, l.invariant.3, l.invariant.4)

pub returns : goal.returns
returns c =
    let z = c.args in
    let e = z.self.now in
    let pre = c.requires in
    let l = c.loop-k in
    piece_here e.table.now e.last z.row.now e.some l.invariant.0 pre.2 l.k l.invariant.1 l.invariant.2 c.loop-k-test.false
