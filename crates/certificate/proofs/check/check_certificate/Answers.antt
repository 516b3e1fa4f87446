-- `check_certificate` refuses, judges the rows, or tests the links.
use mathlib.Core.Path.{◌≡◌, sym, ap, ◌∙◌}
use borrow.Author.Rules.{rules}
use Rattle.orders.proofs.Given.{refusal_numbered, given_number, given_none}
use Rattle.rivals.specs.declared.judge.Judgement.{Judgement}
use Rattle.certificate.specs.Claim.{claim_of}
use Rattle.certificate.proofs.ClaimAnswers.{answer_refused, answer_broken, answer_links}
use Rattle.certificate.proofs.check.check_certificate.Goals as goal

pub returns-in-Err : goal.returns-in-Err
returns-in-Err c =
    let z = c.args in
    let given = c.refusal in
    answer_refused (claim_of z.table.now z.delay.0 z.buffer.0 z.arrivals.now z.admitted.now z.departed.now
    z.admitted_from.now z.admitted_by.now z.departed_from.now) c.number.result
    (λ e. refusal_numbered c.in-Err.refusal (sym c.number.ensures ∙ e))
    (c.number.ensures ∙ given_number given.result c.in-Err.refusal _ given.ensures c.in-Err.is)

pub returns-then-judgement-ne0 : goal.returns-then-judgement-ne0
returns-then-judgement-ne0 c =
    let z = c.args in
    answer_broken (claim_of z.table.now z.delay.0 z.buffer.0 z.arrivals.now z.admitted.now z.departed.now
    z.admitted_from.now z.admitted_by.now z.departed_from.now) (given_none c.refusal.result _ _ c.refusal.ensures c.in_default.is)
    _ c.judge-judgement.ensures (search rules)

pub links_answer-requires : goal.links_answer-requires
links_answer-requires c =
    let kept : c.judge-judgement.result.rule ≡ 0 = search rules in
    (given_none c.refusal.result _ _ c.refusal.ensures c.in_default.is, ap (λ (j : Judgement). j.rule) (sym c.judge-judgement.ensures) ∙ kept)

pub returns : goal.returns
returns c =
    let z = c.args in
    let kept : c.judge-judgement.result.rule ≡ 0 = search rules in
    answer_links (claim_of z.table.now z.delay.0 z.buffer.0 z.arrivals.now z.admitted.now z.departed.now
    z.admitted_from.now z.admitted_by.now z.departed_from.now)
    (given_none c.refusal.result _ _ c.refusal.ensures c.in_default.is) _
    (ap (λ (j : Judgement). j.rule) (sym c.judge-judgement.ensures) ∙ kept) c.links_answer.ensures
