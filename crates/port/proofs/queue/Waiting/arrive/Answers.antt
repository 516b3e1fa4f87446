-- `arrive` puts one stream's packets in their place a turn.
use mathlib.Core.Path.{refl, ◌∙◌}
use Prim.Native.Nat.{ℕ, ◌+◌, ◌*◌}
use native.Mathlib.Omega.{arith}
use lib.ListN.{get_or}
use Rattle.port.proofs.SlotArrivals.{arrived_next}
use Rattle.port.proofs.Queueing.{queue_low, queue_put}
use borrow.Author.Rules.{rules}
use Rattle.port.proofs.queue.Waiting.arrive.Goals as goal

pub loop-i-preserved : goal.loop-i-preserved
loop-i-preserved c =
    let z = c.args in
    let l = c.loop-i in
    let due : ℕ = z.t + 1 + get_or z.deadlines.now l.i 0 in (
      arrived_next z.deadlines.now z.slots z.input.now z.t z.self.now.row l.i _ l.self.row l.invariant.0 (search rules)
          (omega (arith, c.requires.3 l.i, c.requires.6.long)) refl,
      queue_put l.self.row l.self.totals l.invariant.1 due l.i _ (omega (arith, c.requires.3 l.i)) (search rules) (c.requires.5 _)
          (l.invariant.0.elsewhere due l.i (search rules) (λ p. absurd (omega arith)) ∙ c.requires.7 l.i (search rules)),
    )

pub overflow_add-self-in-loop-i : goal.overflow_add-self-in-loop-i
overflow_add-self-in-loop-i c =
    omega (
      arith,
      queue_low c.loop-i.self.row c.loop-i.self.totals c.loop-i.invariant.1
          (c.args.t + 1 + get_or c.args.deadlines.now c.loop-i.i 0),
      c.requires.5 (c.loop-i.i * c.args.slots + c.args.t),
    )
