-- `rule_at` tests the rules in their order.
use mathlib.Core.Path.{sym, ◌∙◌}
use native.Mathlib.Omega.{arith}
use borrow.Author.Tests.{lt-ltb, le-ltb}
use Rattle.rival_calculus.specs.Broken.{is_over_arrivals, is_over_admitted, is_over_envelope}
use Rattle.rivals.specs.Rules.{window_of}
use Rattle.rivals.proofs.RuleNumbers.{some_told}
use Rattle.rivals.proofs.TriedRules.{arrivals_at, rule_one, rule_two, rule_three, rule_four, rule_five, rule_none}
use borrow.Author.Rules.{rules}
use Rattle.rivals.proofs.rules.Totals.rule_at.Goals as goal

pub returns-then-saturating_sub-from : goal.returns-then-saturating_sub-from
unfolding is_over_arrivals is_over_admitted is_over_envelope
returns-then-saturating_sub-from c =
    let z = c.args.self.now in
    let arrives = arrivals_at z.arrivals.now c.args.t (search rules) in
    rule_one z.table.now z.arrivals.now z.admitted.now z.departed.now z.delay z.buffer c.args.t
    (omega (arith, lt-ltb))

pub returns-then-self-t : goal.returns-then-self-t
unfolding is_over_arrivals is_over_admitted is_over_envelope
returns-then-self-t c =
    let z = c.args.self.now in
    let arrives = arrivals_at z.arrivals.now c.args.t (search rules) in
    rule_two z.table.now z.arrivals.now z.admitted.now z.departed.now z.delay z.buffer c.args.t
    (omega (arith, le-ltb))
    (omega (arith, lt-ltb))

pub returns-then-is_some : goal.returns-then-is_some
unfolding is_over_arrivals is_over_admitted is_over_envelope
returns-then-is_some c =
    let z = c.args.self.now in
    let told = c.is_some.ensures ∙ some_told c.broken_window.result (window_of z c.args.t) c.broken_window.ensures in
    let arrives = arrivals_at z.arrivals.now c.args.t (search rules) in
    rule_three z.table.now z.arrivals.now z.admitted.now z.departed.now z.delay z.buffer c.args.t
    (omega (arith, le-ltb))
    (omega (arith, le-ltb))
    (sym told ∙ c.if-is_some.true)

pub returns-then-over_buffer : goal.returns-then-over_buffer
unfolding is_over_arrivals is_over_admitted is_over_envelope
returns-then-over_buffer c =
    let z = c.args.self.now in
    let told = c.is_some.ensures ∙ some_told c.broken_window.result (window_of z c.args.t) c.broken_window.ensures in
    let arrives = arrivals_at z.arrivals.now c.args.t (search rules) in
    rule_four z.table.now z.arrivals.now z.admitted.now z.departed.now z.delay z.buffer c.args.t
    (omega (arith, le-ltb))
    (omega (arith, le-ltb))
    (sym told ∙ c.if-is_some.false)
    (sym c.over_buffer.ensures ∙ c.if-over_buffer.true)

pub returns-then-over_delay : goal.returns-then-over_delay
unfolding is_over_arrivals is_over_admitted is_over_envelope
returns-then-over_delay c =
    let z = c.args.self.now in
    let told = c.is_some.ensures ∙ some_told c.broken_window.result (window_of z c.args.t) c.broken_window.ensures in
    let arrives = arrivals_at z.arrivals.now c.args.t (search rules) in
    rule_five z.table.now z.arrivals.now z.admitted.now z.departed.now z.delay z.buffer c.args.t
    (omega (arith, le-ltb))
    (omega (arith, le-ltb))
    (sym told ∙ c.if-is_some.false)
    (sym c.over_buffer.ensures ∙ c.if-over_buffer.false)
    (sym c.over_delay.ensures ∙ c.if-over_delay.true)

pub returns-else-over_delay : goal.returns-else-over_delay
unfolding is_over_arrivals is_over_admitted is_over_envelope
returns-else-over_delay c =
    let z = c.args.self.now in
    let told = c.is_some.ensures ∙ some_told c.broken_window.result (window_of z c.args.t) c.broken_window.ensures in
    let arrives = arrivals_at z.arrivals.now c.args.t (search rules) in
    sym (rule_none z.table.now z.arrivals.now z.admitted.now z.departed.now z.delay z.buffer c.args.t
    (omega (arith, le-ltb))
    (omega (arith, le-ltb))
    (sym told ∙ c.if-is_some.false)
    (sym c.over_buffer.ensures ∙ c.if-over_buffer.false)
    (sym c.over_delay.ensures ∙ c.if-over_delay.false))
