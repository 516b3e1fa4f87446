-- `check_chain` refuses, or checks with rows of its own.
use Rattle.std.proofs.Common.{sym, ◌∙◌, arith, rules}
use Rattle.orders.proofs.Given.{given_none}
use Rattle.chain.proofs.ChainJudged.{chain-taken}
use Rattle.chain.proofs.PreparedRows.{buffer_narrow, checkable}
use Rattle.chain.proofs.CheckerAnswer.{check_given, check_told}
use Rattle.chain.proofs.check.check_chain.Goals as goal

pub returns-in_err-chain_refusal : goal.returns-in_err-chain_refusal
returns-in_err-chain_refusal c =
    let z = c.args in
    check_given z.table.now z.delay.0 z.buffer.0 z.arrivals.now z.slot.0 z.slots.now z.marks.now z.amounts.now z.places
    c.chain_refusal.result c.from_residual.result c.in_err-chain_refusal.field-0.0 c.chain_refusal.ensures (search rules) (search rules)

pub sound-requires : goal.sound-requires
sound-requires c =
    let z = c.args in
    let none = given_none c.chain_refusal.result _ _ c.chain_refusal.ensures (search rules) in
    let ok = chain-taken z.table.now z.delay.0 z.buffer.0 z.arrivals.now z.slot.0 _ _ _ none in
    (ok.long_marks ∙ sym ok.long_slots, ok.long_amounts ∙ sym ok.long_slots)

pub returns : goal.returns
returns c =
    let z = c.args in
    let none = given_none c.chain_refusal.result _ _ c.chain_refusal.ensures (search rules) in
    check_told z.table.now z.delay.0 z.buffer.0 z.arrivals.now z.slot.0 z.slots.now z.marks.now z.amounts.now
    z.places none c.sound.result (c.sound.ensures z.table.now z.arrivals.now
    (checkable z.table.now z.delay.0 z.buffer.0 z.arrivals.now z.slot.0 _ _ _ none _ _
    c.window_row.ensures _ _ c.total_row.ensures))

pub overflow_cast-buffer : goal.overflow_cast-buffer
overflow_cast-buffer c =
    let z = c.args in
    let none = given_none c.chain_refusal.result _ _ c.chain_refusal.ensures (search rules) in
    omega (arith, buffer_narrow z.table.now z.delay.0 z.buffer.0 z.arrivals.now z.slot.0 _ _ _ none)
