-- The table is taken and asked as the definition says.
use Rattle.std.proofs.Common.{◌≡◌, ap, sym, ◌∙◌, rules, Result, Ok, Err}
use Rattle.orders.specs.declared.refusal.Refusal.{Refusal}
use Rattle.envelope.specs.declared.table.Envelope.{Envelope}
use Rattle.question.specs.declared.question.WindowBound.{WindowBound}
use Rattle.orders.specs.Answered.{refusal_number}
use Rattle.settings.specs.Taken.{taken_given}
use Rattle.question.specs.Question.{answer_given, asked}
use Rattle.c_answers.specs.Numbered.{bound_of}
use Rattle.exports.proofs.ByNumber.{accepted-asked, refused_numbered}
use Rattle.exports.proofs.envelope_at.asked.Goals as goal

pub returns-in_err-take : goal.returns-in_err-take
unfolding bound_of answer_given taken_given
returns-in_err-take c =
    let refusal = c.in_err-take.field-0.0 in
    let answered : c.from_residual.result ≡ Err refusal = search rules in
    let refused : c.take.result ≡ Err refusal = search rules in
    ap (λ (given : Result WindowBound Refusal). bound_of (answer_given given)) answered
    ∙ refused_numbered (taken_given c.take.result) c.args.table.now c.args.window (refusal_number refusal) c.take.ensures
    (ap (λ (given : Result Envelope Refusal). (taken_given given).verdict) refused)

pub returns : goal.returns
unfolding taken_given
returns c =
    let taken : c.take.result ≡ Ok c.in_ok-take.field-0 = search rules in
    ap bound_of c.ask.ensures
    ∙ ap (λ (given : Result Envelope Refusal). bound_of (asked (taken_given given).envelope c.args.window)) (sym taken)
    ∙ accepted-asked (taken_given c.take.result) c.args.table.now c.args.window c.take.ensures
    (ap (λ (given : Result Envelope Refusal). (taken_given given).verdict) taken)
