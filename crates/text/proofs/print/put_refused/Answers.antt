-- `put_refused` puts the word and the number where there is room for the longest.
use Rattle.std.proofs.Common.{[], ◌∷◌, length, arith, rules}
use Rattle.text.specs.Lines.{bytes, line, refused_text}
use Rattle.text.proofs.Lines.{line-length, number_fits}
use Rattle.text.proofs.Put.{nothing_printed, put_then, put_printed}
use Rattle.text.proofs.Printed.{refused_fits, refused_left_out}
use Rattle.text.proofs.print.put_refused.Goals as goal

pub returns-then-out-lt-REFUSAL_ROOM : goal.returns-then-out-lt-REFUSAL_ROOM
returns-then-out-lt-REFUSAL_ROOM c =
    rw (refused_left_out c.args.number (length c.args.out.now) (search rules)) (nothing_printed c.args.out.now)

pub returns : goal.returns
unfolding refused_text line bytes
returns c =
    let n = c.args.number in
    let put = rw c.from.ensures at (put_then c.put_word-place.ensures c.put_last.ensures) in
    rw (refused_fits n (length c.args.out.now) (search rules))
    (put_printed put (omega (arith, line-length (bytes "refused") (n ∷ []), number_fits n (search rules))))
