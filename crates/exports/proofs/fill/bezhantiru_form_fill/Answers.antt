-- `bezhantiru_form_fill` reads a record of its numbers.
use Rattle.live_step.specs.Fill.{form_fill}
use Rattle.exports.proofs.fill.bezhantiru_form_fill.Goals as goal

pub returns : goal.returns
unfolding form_fill
returns c = c.form_fill.ensures
