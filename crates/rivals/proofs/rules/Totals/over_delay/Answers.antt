-- `over_delay` tests whether there is a delay limit, whether slot t is a deadline, and whether it is met.
use Rattle.std.proofs.Common.{rules, eq-eqb, ne_eqb, le-leb}
use borrow.Author.Tests.{lt-leb}
use Rattle.calculus.specs.Numbers.Limit.{limit_unless, delay_limit}
use Rattle.rival_calculus.specs.Broken.{is_over_delay}
use Rattle.rivals.proofs.rules.Totals.over_delay.Goals as goal

pub returns-then-self-eq-NO_DELAY : goal.returns-then-self-eq-NO_DELAY
unfolding is_over_delay delay_limit limit_unless
returns-then-self-eq-NO_DELAY c = rw (eq-eqb c.args.self.now.delay 255 (search rules))

pub returns-else-ahead-t : goal.returns-else-ahead-t
unfolding is_over_delay delay_limit limit_unless
returns-else-ahead-t c =
    let z = c.args.self.now in
    rw (ne_eqb z.delay 255 (search rules), lt-leb z.delay c.args.t (search rules))

pub returns-then-ahead-t : goal.returns-then-ahead-t
unfolding is_over_delay delay_limit limit_unless
returns-then-ahead-t c =
    let z = c.args.self.now in
    rw (ne_eqb z.delay 255 (search rules), le-leb z.delay c.args.t (search rules))
