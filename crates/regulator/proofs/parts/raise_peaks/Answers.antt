-- `raise_peaks` takes the fills without their bounds, which no record of a step reaches.
use native.Mathlib.Omega.{arith}
use Rattle.live_step.specs.Fill.{form_fill, bench_fill}
use Rattle.regulator.proofs.parts.raise_peaks.Goals as goal

pub returns : goal.returns
unfolding form_fill bench_fill
returns c =
    let pre = c.requires in
    (omega (arith, c.max.ensures), omega (arith, c.max-2.ensures))
