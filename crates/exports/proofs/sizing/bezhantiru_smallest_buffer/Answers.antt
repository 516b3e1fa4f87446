-- It hands on what it is given.
use Rattle.std.proofs.Common.{ap, ◌∙◌}
use Rattle.exports.specs.NumberedSizes.{size_of, buffer_size_of}
use Rattle.exports.proofs.sizing.bezhantiru_smallest_buffer.Goals as goal

pub returns : goal.returns
unfolding buffer_size_of
returns c = c.into.ensures ∙ ap size_of c.smallest_buffer.ensures
