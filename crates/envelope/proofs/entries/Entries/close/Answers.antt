-- `close` puts each window's value before the earlier ones, and its piece at the same place.
use mathlib.Core.Path.{◌≡◌, sym, ap, ◌∙◌}
use Prim.Native.Nat.{◌-◌}
use native.Mathlib.Nat.{le_refl, le_antisymm, add-sub_cancel}
use native.Mathlib.Omega.{arith}
use lib.ListN.{length}
use Rattle.envelope.specs.ClosureRow.{closed_by, piece_by, placed}
use Rattle.envelope.proofs.ClosureRow.{closed_by-zero, no-places, last-window, last_place, last_put, newest_first_full}
use Rattle.envelope.proofs.ClosureRow.{next-window, next_put}
use Rattle.envelope.proofs.FirstPiece.{told-zero}
use Rattle.envelope.proofs.LastPlaceFirst.{placed_none, placed_more, placed-held, placed_since}
use Rattle.envelope.proofs.entries.Entries.close.Goals as goal

pub returns-then-len-eq0 : goal.returns-then-len-eq0
returns-then-len-eq0 c =
    let z = c.args in
    let e = z.self.now in
    let none : length z.row.now ≡ 0 = c.if-len-eq0.true in (
      no-places (closed_by e.table.now e.last) z.row.now none,
      placed_none (piece_by e.table.now e.last) (length z.row.now)
          z.pieces.now (length z.row.now) none,
    )

pub put-requires : goal.put-requires
put-requires c =
    let some = c.if-len-eq0.false in
    let z = c.args in
    let e = z.self.now in
    let pre = c.requires in
    let h = closed_by e.table.now e.last in
    let window = last-window h z.row.now some in
    let (inside, values) = last_place h z.row.now some in
    let zero = closed_by-zero e.table.now e.last e.some e.small in
    (inside, pre, values, sym (ap h window ∙ zero), told-zero e.table.now e.last _ window)

pub loop-n-init : goal.loop-n-init
loop-n-init c =
    let some = c.if-len-eq0.false in
    let z = c.args in
    let e = z.self.now in
    let pre = c.requires in
    let put = c.put in
    let h = closed_by e.table.now e.last in
    let g = piece_by e.table.now e.last in
    let window = length z.row.now - 1 - (length z.row.now - 1) in
    let zero = sym (closed_by-zero e.table.now e.last e.some e.small) in
    let (one, long, values) = last_put h z.row.now some {row' = put.new.row} zero put.ensures.0 in (
      le_refl 1,
      one,
      sym long,
      long,
      zero,
      values,
      placed-held g (length z.row.now) z.pieces.now {v = g window} put.new.pieces
          put.ensures.1 (ap g (last-window h z.row.now some)),
    )

pub loop-n-preserved : goal.loop-n-preserved
loop-n-preserved c =
    let z = c.args in
    let e = z.self.now in
    let l = c.loop-n in
    let more = c.loop-n-test.true in
    let h = closed_by e.table.now e.last in
    let g = piece_by e.table.now e.last in
    let value = c.next-found.ensures.0 in
    let put = c.put-in-loop-n.ensures in
    let window = next-window h (length z.row.now) l.n l.row l.invariant.3 more l.invariant.5 in
    let (long, values) = next_put h (length z.row.now) l.n l.row l.invariant.3 more l.invariant.5 value put.0 in (
      omega arith,
      omega arith,
      l.invariant.2,
      long,
      value ∙ ap h (sym (add-sub_cancel l.n 1)),
      values,
      placed_more g (length z.row.now) _ {v = g (length l.row - 1 - (length z.row.now - l.n - 1))} put.1 l.invariant.6 (ap g window),
    )

pub returns : goal.returns
returns c =
    let z = c.args in
    let e = z.self.now in
    let l = c.loop-n in
    let g = piece_by e.table.now e.last in
    let window = length z.row.now - 1 - (length z.row.now - 1) in
    let pieced = l.invariant.6 ∙ placed_since g (length z.row.now) z.pieces.now {v = g window} c.put.new.pieces c.put.ensures.1
    (ap g (last-window g z.row.now c.if-len-eq0.false)) l.n l.invariant.0 in
    let end = le_antisymm l.invariant.1 c.loop-n-test.false in (
      newest_first_full (closed_by e.table.now e.last) l.row (length z.row.now) l.n l.invariant.1 c.loop-n-test.false l.invariant.5,
      pieced ∙ ap (placed (piece_by e.table.now e.last) (length z.row.now) z.pieces.now) end,
    )
