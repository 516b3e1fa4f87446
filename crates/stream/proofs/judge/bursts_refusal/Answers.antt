-- `bursts_refusal` passes on the judgment of the bursts that are left.
use mathlib.Core.Path.{sym, ◌∙◌}
use native.Mathlib.Omega.{arith}
use Rattle.orders.specs.Answered.{number_given, refusal_number}
use Rattle.stream.proofs.Bursts.{slots_low, slots_high, slots_fine, slots_done}
use Rattle.stream.proofs.judge.bursts_refusal.Goals as goal
use Rattle.stream.proofs.judge.bursts_refusal.Goals.{then-slot-before-via-then-slot-before, then-slot-before-via-else-slot-before+then-slot-most}

pub returns-then-slot-before : goal.returns-then-slot-before
unfolding number_given refusal_number
returns-then-slot-before c =
    let z = c.args.file.now in
    let l = c.loop-k in
    let slot = c.number_at-slot.result in
    let read = rw c.number_at.ensures at c.number_at-slot.ensures in
    elim c.then-slot-before.branch [
      | then-slot-before-via-then-slot-before w ↦ sym (l.invariant ∙ slots_low z l.before l.k slot (omega (arith, c.number_at-bursts.ensures)) read (omega arith))
      | then-slot-before-via-else-slot-before+then-slot-most w ↦
          sym (l.invariant ∙ slots_high z l.before l.k slot (omega (arith, c.number_at-bursts.ensures)) read (omega (arith, c.number_at-most.ensures)))
    ]

pub loop-k-preserved : goal.loop-k-preserved
loop-k-preserved c =
    let l = c.loop-k in
    let read = rw c.number_at.ensures at c.number_at-slot.ensures in
    l.invariant ∙ slots_fine c.args.file.now l.before l.k c.number_at-slot.result (omega (arith, c.number_at-bursts.ensures)) read
    (omega arith) (omega (arith, c.number_at-most.ensures))

pub returns : goal.returns
unfolding number_given
returns c = sym (c.loop-k.invariant ∙ slots_done c.args.file.now c.loop-k.before c.loop-k.k (omega (arith, c.number_at-bursts.ensures)))
