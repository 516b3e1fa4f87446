-- `put_byte` stores one byte inside the slice, and none after its end.
use Rattle.text.proofs.Put.{put_one, put-past}
use Rattle.text.proofs.bytes.put_byte.Goals as goal

pub returns-then-at-out : goal.returns-then-at-out
returns-then-at-out c = put_one c.args.out.now c.args.at c.args.byte c.if-at-out.true

pub returns-else-at-out : goal.returns-else-at-out
returns-else-at-out c = put-past c.args.out.now c.args.at c.args.byte c.if-at-out.false
