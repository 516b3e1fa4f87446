-- `admit_one` tests whether there is a delay limit.
use mathlib.Core.Path.{ap, ap₂, ◌∙◌}
use Prim.Native.Nat.{ℕ, ◌+◌, min}
use borrow.Author.Tests.{eq-eqb, ne_eqb}
use Rattle.calculus.specs.Numbers.Limit.{map_limit, cut, limit_unless}
use Rattle.bucket_calculus.specs.Buckets.{enlargement}
use Rattle.numbers.specs.LeastSum.{top}
use Rattle.refusals.specs.Limits.{delay_limit}
use borrow.Author.Rules.{rules}
use Rattle.device.proofs.levels.admit_one.Goals as goal

pub returns-then-delay-eq-NO_DELAY : goal.returns-then-delay-eq-NO_DELAY
unfolding cut map_limit limit_unless delay_limit enlargement
returns-then-delay-eq-NO_DELAY c = rw (eq-eqb c.args.delay 255 (search rules))

pub returns : goal.returns
unfolding cut map_limit limit_unless delay_limit enlargement
returns c =
    let z = c.args in
    rw (ne_eqb z.delay 255 (search rules))
    (c.min.ensures ∙ ap (min z.total) (c.saturating_add.ensures ∙ ap₂ (λ (g e : ℕ). min (g + e) top) c.gain.ensures c.timely.ensures))
