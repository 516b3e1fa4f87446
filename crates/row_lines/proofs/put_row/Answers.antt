-- `put_row` puts the word and then one number a turn: after i turns, the first i of them.
use native.Mathlib.Omega.{arith}
use lib.Seq.{take_all}
use Rattle.text.proofs.Put.{put-length, put_none, put_then}
use Rattle.row_lines.specs.Lines.{spaced, labelled}
use Rattle.row_lines.proofs.Lines.{spaced_more}
use Rattle.row_lines.proofs.put_row.Goals as goal

pub loop-number-init : goal.loop-number-init
unfolding spaced
loop-number-init c = put_none _ _ (omega (arith, c.put_word-place.ensures.next, put-length c.put_word-place.ensures))

pub loop-number-preserved : goal.loop-number-preserved
loop-number-preserved c =
    let l = c.loop-number in
    rw (spaced_more c.args.row.now l.number-index (omega arith)) (put_then l.invariant (rw c.from.ensures at c.put_field-place.ensures))

pub returns : goal.returns
unfolding labelled
returns c =
    let l = c.loop-number in
    put_then c.put_word-place.ensures (rw (take_all l.number-index c.args.row.now (omega arith)) at l.invariant)
