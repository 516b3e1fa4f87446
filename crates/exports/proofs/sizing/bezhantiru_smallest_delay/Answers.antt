-- It hands on what it is given.
use Rattle.std.proofs.Common.{ℕ, ap, ◌∙◌}
use Rattle.exports.specs.NumberedSizes.{size_of, delay_size_of}
use Rattle.exports.proofs.sizing.bezhantiru_smallest_delay.Goals as goal

pub returns : goal.returns
unfolding delay_size_of
returns c =
    let z = c.args in
    c.into.ensures ∙ ap size_of c.smallest_delay.ensures ∙ ap (λ (q : ℕ). delay_size_of z.table.now q z.arrivals.now z.most) c.from.ensures
