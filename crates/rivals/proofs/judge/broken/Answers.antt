-- `broken` finds the first slot that is broken, and its rule and window.
use Rattle.std.proofs.Common.{◌≡◌, ◌∙◌, arith, sym, refl}
use Rattle.calculus.specs.Numbers.Limit.{delay_limit, buffer_limit}
use Rattle.calculus.specs.Regulators.Trace.{arrivals}
use Rattle.rivals.specs.Rules.{window_of}
use Rattle.rivals.proofs.RuleNumbers.{rule_three, told_or}
use Rattle.rivals.proofs.TriedRules.{held}
use Rattle.rivals.proofs.RivalAnswer.{answer_none, answer-rule, answer-window}
use Rattle.rivals.proofs.judge.broken.Goals as goal
use Rattle.rivals.proofs.judge.broken.Goals.{in-Envelope, in_default-rule}

pub returns-in_default : goal.returns-in_default
returns-in_default c =
    let z = c.args.totals.now in
    answer_none z.table.now (delay_limit z.delay) (buffer_limit z.buffer) (arrivals z.arrivals.now) (held z.admitted.now)
    (held z.departed.now) 0 _ (sym (c.in_default.ensures)) refl

pub overflow_cast-result : goal.overflow_cast-result
overflow_cast-result c = let within = c.in-Some.ensures in omega arith

pub returns : goal.returns
returns c =
    let z = c.args.totals.now in
    let b = c.in-Some.ensures in
    elim c.match-rule.branch [
      | in-Envelope w ↦
          let third : c.number.result ≡ 3 = rw w.in-Envelope.is at c.number.ensures in
          let window = w.window-is ∙ w.unwrap_or-window.ensures ∙ told_or w.broken_window.result (window_of z c.in-Some.slot) w.broken_window.ensures in
          answer-window z.table.now (delay_limit z.delay) (buffer_limit z.buffer) (arrivals z.arrivals.now) (held z.admitted.now)
          (held z.departed.now) c.in-Some.slot _ c.number.result _ b.0 (λ e. omega arith) (c.number.ensures ∙ b.3) third window
      | in_default-rule w ↦
          let other = λ (e : c.number.result ≡ 3). w.in_default-rule.not-Envelope (rule_three c.in-Some.rule (sym c.number.ensures ∙ e)) in
          rw w.window-is (answer-rule z.table.now (delay_limit z.delay) (buffer_limit z.buffer) (arrivals z.arrivals.now) (held z.admitted.now)
          (held z.departed.now) c.in-Some.slot _ c.number.result b.0 (λ e. omega arith) (c.number.ensures ∙ b.3) other)
    ]
