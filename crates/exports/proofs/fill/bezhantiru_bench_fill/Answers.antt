-- `bezhantiru_bench_fill` reads a record of its numbers.
use Rattle.live_step.specs.Fill.{bench_fill}
use Rattle.exports.proofs.fill.bezhantiru_bench_fill.Goals as goal

pub returns : goal.returns
unfolding bench_fill
returns c = c.bench_fill.ensures
