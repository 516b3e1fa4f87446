-- `over_buffer` tests whether there is a buffer limit, and whether the fill is within it.
use Rattle.std.proofs.Common.{rules, ap, eq-eqb, ne_eqb, ltb}
use Rattle.calculus.specs.Numbers.Limit.{limit_unless, buffer_limit}
use Rattle.rival_calculus.specs.Broken.{is_over_buffer}
use Rattle.rivals.proofs.rules.Totals.over_buffer.Goals as goal

pub returns-then-self-ne-NO_BUFFER : goal.returns-then-self-ne-NO_BUFFER
unfolding is_over_buffer buffer_limit limit_unless
returns-then-self-ne-NO_BUFFER c =
    let z = c.args.self.now in
    rw (ne_eqb z.buffer 4294967295 (search rules)) (ap (ltb z.buffer) c.saturating_sub.ensures)

pub returns-else-self-ne-NO_BUFFER : goal.returns-else-self-ne-NO_BUFFER
unfolding is_over_buffer buffer_limit limit_unless
returns-else-self-ne-NO_BUFFER c = rw (eq-eqb c.args.self.now.buffer 4294967295 (search rules))
