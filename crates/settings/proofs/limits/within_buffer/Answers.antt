-- `within_buffer` takes the smaller of the total and what the buffer holds, which no total is above where there is no limit.
use native.Mathlib.Decide.{ℕ_discrete}
use native.Mathlib.Omega.{arith}
use borrow.Author.Tests.{eq-eqb, ne_eqb}
use Rattle.calculus.specs.Numbers.Limit.{map_limit, cut, limit_unless, buffer_limit}
use Rattle.settings.proofs.limits.within_buffer.Goals as goal

pub returns : goal.returns
unfolding cut map_limit buffer_limit limit_unless
returns c =
    elim (ℕ_discrete c.args.buffer 4294967295) [
      | yes e ↦ rw (eq-eqb c.args.buffer 4294967295 e) (omega (arith, c.min.ensures, c.saturating_add.ensures, c.ranges))
      | no p ↦ rw (ne_eqb c.args.buffer 4294967295 p) (omega (arith, c.min.ensures, c.saturating_add.ensures, c.ranges))
    ]
