-- `judge` refuses, or adds both lists up and judges the totals.
use Rattle.std.proofs.Common.{◌∙◌, sym, refl, length, arith}
use Rattle.orders.proofs.Given.{refusal_numbered, given_number, given_none}
use Rattle.calculus.proofs.Numbers.Lists.{all-zero}
use Rattle.rivals.proofs.RivalAnswer.{rival-accepted, answer_refused, answer_judged}
use Rattle.rivals.proofs.judge.judge.Goals as goal

pub returns-in-Err : goal.returns-in-Err
returns-in-Err c =
    let z = c.args in
    let given = c.rival_refusal in
    answer_refused z.table.now z.delay.0 z.buffer.0 z.arrivals.now z.admitted.now z.departed.now c.number.result
    (λ e. refusal_numbered c.in-Err.refusal (sym c.number.ensures ∙ e))
    (c.number.ensures ∙ given_number given.result c.in-Err.refusal _ given.ensures c.in-Err.is)

pub tally-requires : goal.tally-requires
tally-requires c =
    let z = c.args in
    let none = given_none c.rival_refusal.result _ _ c.rival_refusal.ensures c.in_default.is in
    let ok = rival-accepted z.table.now z.delay.0 z.buffer.0 z.arrivals.now (length z.admitted.now) (length z.departed.now) none in
    (omega (arith, ok.short, ok.long_ins), all-zero 4097 0)

pub tally-requires-2 : goal.tally-requires-2
tally-requires-2 c =
    let z = c.args in
    let none = given_none c.rival_refusal.result _ _ c.rival_refusal.ensures c.in_default.is in
    let ok = rival-accepted z.table.now z.delay.0 z.buffer.0 z.arrivals.now (length z.admitted.now) (length z.departed.now) none in
    (omega (arith, ok.short, ok.long_outs), all-zero 4097 0)

pub broken-requires : goal.broken-requires
broken-requires c =
    let z = c.args in
    let none = given_none c.rival_refusal.result _ _ c.rival_refusal.ensures c.in_default.is in
    let ok = rival-accepted z.table.now z.delay.0 z.buffer.0 z.arrivals.now (length z.admitted.now) (length z.departed.now) none in
    (ok.small, ok.short, omega (arith, ok.long_ins, c.tally.ensures.long), omega (arith, ok.long_outs, c.tally-2.ensures.long))

pub returns : goal.returns
returns c =
    let z = c.args in
    let none = given_none c.rival_refusal.result _ _ c.rival_refusal.ensures c.in_default.is in
    c.broken.ensures
    ∙ answer_judged z.table.now z.delay.0 z.buffer.0 z.arrivals.now z.admitted.now z.departed.now 0 refl (sym none) _ _ c.tally.ensures
    c.tally-2.ensures
