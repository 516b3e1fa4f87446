-- `delay_start` looks at what has departed by the deadline.
use Rattle.std.proofs.Common.{rules}
use Rattle.calculus.specs.Numbers.Limit.{buffer_limit}
use Rattle.found_links.proofs.FirstStarts.{delay_unlimited, delay_beyond, delay_other, delay_here}
use Rattle.found_links.proofs.rows.Rows.delay_start.Goals as goal
use Rattle.found_links.proofs.rows.Rows.delay_start.Goals.{then-self-eq-NO_DELAY-via-then-self-eq-NO_DELAY, then-self-eq-NO_DELAY-via-else-self-eq-NO_DELAY+then-due-self, then-self-eq-NO_DELAY-via-else-self-eq-NO_DELAY+else-due-self+then-self-due}

pub returns-then-self-eq-NO_DELAY : goal.returns-then-self-eq-NO_DELAY
returns-then-self-eq-NO_DELAY c =
    let z = c.args.self.now in
    λ f a u v rows. elim c.then-self-eq-NO_DELAY.branch [
      | then-self-eq-NO_DELAY-via-then-self-eq-NO_DELAY w ↦
          delay_unlimited f a u v z.reach z.admitted z.lost z.departed z.starts c.args.t c.requires.0 z.delay (buffer_limit z.buffer) rows (search rules)
      | then-self-eq-NO_DELAY-via-else-self-eq-NO_DELAY+then-due-self w ↦
          delay_beyond f a u v z.reach z.admitted z.lost z.departed z.starts c.args.t c.requires.0 z.delay (buffer_limit z.buffer) rows (search rules)
      | then-self-eq-NO_DELAY-via-else-self-eq-NO_DELAY+else-due-self+then-self-due w ↦
          delay_other f a u v z.reach z.admitted z.lost z.departed z.starts c.args.t c.requires.0 z.delay (buffer_limit z.buffer) rows (search rules)
          (search rules)
    ]

pub returns : goal.returns
returns c =
    let z = c.args.self.now in
    λ f a u v rows.
    rw c.min.ensures
    (delay_here f a u v z.reach z.admitted z.lost z.departed z.starts c.args.t c.requires.0 z.delay (buffer_limit z.buffer) rows (search rules)
    (search rules) (search rules))
