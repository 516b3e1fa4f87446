-- `last_digit` is the remainder by ten, as a byte.
use mathlib.Core.Path.{refl}
use Rattle.text.specs.Digits.{last_digit}
use Rattle.text.proofs.number.last_digit.Goals as goal

pub returns : goal.returns
unfolding last_digit
returns c = refl
