-- `link_run` finds the links from rows of its own, made of the lists.
use mathlib.Core.Path.{◌∙◌}
use Rattle.calculus.specs.Numbers.Limit.{delay_limit, buffer_limit}
use Rattle.calculus.specs.Regulators.Trace.{arrivals}
use Rattle.calculus.specs.Regulators.Rows.{envelope_of, admitted_by, departed_by}
use Rattle.found_links.proofs.OurRows.{run_long}
use Rattle.found_links.proofs.certify.link_run.Goals as goal

pub returns : goal.returns
returns c =
    let z = c.args in
    λ trace one two three none admits drops departs.
    let long = run_long z.table.now z.delay z.buffer trace one two three none _ _ _ admits drops departs in
    let (delay₀, buffer₀, reach₀) = c.blank-rows.ensures in
    let (delay₁, buffer₁, reach₁) = c.read_run.ensures.given in
    let delay = delay₁ ∙ delay₀ in
    let buffer = buffer₁ ∙ buffer₀ in
    let reach = reach₁ ∙ reach₀ in
    let ours = rw reach₀ at (c.read_run.ensures.ours z.delay z.buffer trace one two three none admits drops departs) in
    rw (delay, buffer, reach, long) at
    (c.fill_links.ensures (envelope_of z.table.now) (arrivals trace)
    (admitted_by z.table.now (delay_limit z.delay) (buffer_limit z.buffer) trace)
    (departed_by z.table.now (delay_limit z.delay) (buffer_limit z.buffer) trace)
    (rw (delay, buffer, reach) ours))
