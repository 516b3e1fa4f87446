-- `put_number` puts the digits of the tenth and then the last one.
use Rattle.text.proofs.Digits.{digits_one, digits_split}
use Rattle.text.proofs.Put.{put_then}
use Rattle.text.proofs.number.+put_number.Goals as goal

pub returns-then-n-lt10 : goal.returns-then-n-lt10
returns-then-n-lt10 t c = rw (digits_one c.args.n c.if-n-lt10.true, ← c.last_digit.ensures) c.put_byte.ensures

pub returns : goal.returns
returns t c = rw (digits_split c.args.n c.if-n-lt10.false, ← c.last_digit-2.ensures) (put_then c.put_number-place.ensures c.put_byte-2.ensures)
