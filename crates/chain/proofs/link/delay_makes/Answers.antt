-- `delay_makes` looks where the rows reach.
use Rattle.std.proofs.Common.{sym, ◌∙◌, rules}
use Rattle.std.proofs.lemmas.Bool.{lt-leb}
use Rattle.chain.proofs.LinkTests.{no-delay_makes, delay_some}
use Rattle.chain.proofs.link.delay_makes.Goals as goal

pub returns-else-delay-le-LONGEST_DELAY : goal.returns-else-delay-le-LONGEST_DELAY
returns-else-delay-le-LONGEST_DELAY c = let z = c.args in
    lt-leb z.delay 64 (search rules) ∙ sym (no-delay_makes z.windows.now z.window z.amount z.delay (search rules))

pub returns-then-delay-le-LONGEST_DELAY : goal.returns-then-delay-le-LONGEST_DELAY
returns-then-delay-le-LONGEST_DELAY c =
    let z = c.args in
    rw c.at_window.ensures (sym (delay_some z.windows.now z.window z.amount z.delay (search rules)))
