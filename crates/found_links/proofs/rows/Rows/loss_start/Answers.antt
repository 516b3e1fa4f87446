-- `loss_start` walks back while the loss is the same.
use Rattle.std.proofs.Common.{◌≡◌, ◌+◌, ◌-◌, arith, rules}
use Rattle.calculus.specs.Numbers.Limit.{delay_limit, buffer_limit}
use Rattle.found_links.proofs.SameLoss.{back_start}
use Rattle.found_links.proofs.rows.Rows.loss_start.Goals as goal

pub returns-then-self-s-clause-earliest : goal.returns-then-self-s-clause-earliest
returns-then-self-s-clause-earliest c =
    let z = c.args.self.now in
    let l = c.loop-s in
    let back : l.s - 1 + 1 ≡ l.s = omega arith in
    λ f a u v rows inside.
    rw back
    (back_start f (delay_limit z.delay) (buffer_limit z.buffer) a z.reach u v z.admitted z.lost z.departed z.starts rows c.args.t l.s inside
    (omega arith) l.invariant (λ some. search rules))

pub returns-clause-earliest : goal.returns-clause-earliest
returns-clause-earliest c =
    let z = c.args.self.now in
    let l = c.loop-s in
    let first : l.s ≡ 0 = omega arith in
    λ f a u v rows inside.
    back_start f (delay_limit z.delay) (buffer_limit z.buffer) a z.reach u v z.admitted z.lost z.departed z.starts rows c.args.t 0 inside
    (omega arith) (rw first at l.invariant) (λ some. absurd (omega arith))
