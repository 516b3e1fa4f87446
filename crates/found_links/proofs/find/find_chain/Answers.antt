-- `find_chain` refuses before it writes, or finds with rows of its own.
use mathlib.Core.Path.{◌∙◌}
use native.Mathlib.Omega.{arith}
use borrow.Author.Rules.{rules}
use Rattle.orders.proofs.Given.{given_none}
use Rattle.refusals.proofs.AcceptedSettings.{set_up-accepted}
use Rattle.trace.proofs.Totals.{buffer_fits}
use Rattle.trace.proofs.RunAnswer.{run-accepted}
use Rattle.chain.proofs.ChainJudged.{chain-taken}
use Rattle.found_links.proofs.FinderAnswer.{find_refused, find_put}
use Rattle.found_links.proofs.FoundLinksPut.{chain_rows_lem}
use Rattle.found_links.proofs.find.find_chain.Goals as goal

pub returns-in_err-chain_refusal : goal.returns-in_err-chain_refusal
returns-in_err-chain_refusal c =
    let z = c.args in
    find_refused z.table.now z.delay.0 z.buffer.0 z.arrivals.now z.slot.0 z.slots.now z.marks.now z.amounts.now
    c.chain_refusal.result c.from_residual.result c.in_err-chain_refusal.field-0.0 c.chain_refusal.ensures (search rules) (search rules)

pub overflow_cast-buffer : goal.overflow_cast-buffer
overflow_cast-buffer c =
    let z = c.args in
    let none = given_none c.chain_refusal.result _ _ c.chain_refusal.ensures (search rules) in
    let ok = chain-taken z.table.now z.delay.0 z.buffer.0 z.arrivals.now z.slot.0 _ _ _ none in
    let runs = run-accepted z.table.now z.delay.0 z.buffer.0 z.arrivals.now _ _ _ ok.runs in
    omega (arith, buffer_fits z.table.now z.delay.0 z.buffer.0 (set_up-accepted z.table.now z.delay.0 z.buffer.0 runs.set_up))

pub read_trace-requires : goal.read_trace-requires
read_trace-requires c =
    let z = c.args in
    let none = given_none c.chain_refusal.result _ _ c.chain_refusal.ensures (search rules) in
    let ok = chain-taken z.table.now z.delay.0 z.buffer.0 z.arrivals.now z.slot.0 _ _ _ none in
    (ok.runs, ok.short, omega (arith, c.blank-rows.ensures.2, ok.inside, ok.short))

pub find-places-requires : goal.find-places-requires
find-places-requires c =
    let z = c.args in
    let none = given_none c.chain_refusal.result _ _ c.chain_refusal.ensures (search rules) in
    let ok = chain-taken z.table.now z.delay.0 z.buffer.0 z.arrivals.now z.slot.0 _ _ _ none in (
      omega (arith, ok.inside, ok.short),
      omega (arith, ok.inside, ok.long_slots),
      omega (arith, ok.inside, ok.long_marks),
      omega (arith, ok.inside, ok.long_amounts),
      omega (arith, c.blank-rows.ensures.2, c.read_trace.ensures.2),
      omega (arith, c.blank-rows.ensures.2, c.read_trace.ensures.2, ok.inside, ok.short),
    )

pub returns : goal.returns
returns c =
    let z = c.args in
    let none = given_none c.chain_refusal.result _ _ c.chain_refusal.ensures (search rules) in
    let (delay₀, buffer₀, reach₀) = c.blank-rows.ensures in
    let (delay₁, buffer₁, reach₁, read) = c.read_trace.ensures in
    let delay = delay₁ ∙ delay₀ in
    let buffer = buffer₁ ∙ buffer₀ in
    let reach = reach₁ ∙ reach₀ in
    let ready = chain_rows_lem z.table.now z.delay.0 z.buffer.0 z.arrivals.now z.slot.0 _ _ _ none _ _ _ _ (rw reach₀ at read) in
    find_put z.table.now z.delay.0 z.buffer.0 z.arrivals.now z.slot.0 z.slots.now z.marks.now z.amounts.now none _ _ _ _
    (rw (delay, buffer) at (c.find-places.ensures.1 z.table.now z.arrivals.now z.slot.0 (rw (delay, buffer, reach) ready) (omega arith)))

pub overflow_cast-result : goal.overflow_cast-result
overflow_cast-result c =
    let z = c.args in
    let none = given_none c.chain_refusal.result _ _ c.chain_refusal.ensures (search rules) in
    let ok = chain-taken z.table.now z.delay.0 z.buffer.0 z.arrivals.now z.slot.0 _ _ _ none in
    omega (arith, c.find-places.ensures.0, ok.inside, ok.short)
