-- `link_sound` compares the mark's amount.
use Rattle.std.proofs.Common.{sym, ◌∙◌, rules, arith}
use Rattle.chain.proofs.LinkTests.{sound_falls, rows_end, sound-arrivals, sound-delay, sound-buffer, sound_unmarked}
use Rattle.chain.proofs.link.link_sound.Goals as goal
use Rattle.chain.proofs.link.link_sound.Goals.{then-s-t-via-then-s-t, then-s-t-via-else-s-t+then-t-gt-LONGEST_TRACE}

pub returns-then-s-t : goal.returns-then-s-t
returns-then-s-t c =
    let z = c.args in
    elim c.then-s-t.branch [
      | then-s-t-via-then-s-t w ↦ sym (sound_falls z.windows.now z.arrived.now z.delay z.buffer z.s z.t z.mark z.amount (omega arith))
      | then-s-t-via-else-s-t+then-t-gt-LONGEST_TRACE w ↦
          sym (rows_end z.windows.now z.arrived.now z.delay z.buffer z.s z.t z.mark z.amount (omega arith) (omega arith))
    ]

pub returns-in-Some-Arrivals : goal.returns-in-Some-Arrivals
returns-in-Some-Arrivals c =
    let z = c.args in
    c.makes.ensures ∙ sym (sound-arrivals z.windows.now z.arrived.now z.delay z.buffer z.s z.t z.mark z.amount
    (omega arith) (omega arith) (rw c.in-Some-Arrivals.field-0-is at c.in-Some-Arrivals.ensures))

pub returns-in-Some-Delay : goal.returns-in-Some-Delay
returns-in-Some-Delay c =
    let z = c.args in
    c.delay_makes.ensures ∙ sym (sound-delay z.windows.now z.arrived.now z.delay z.buffer z.s z.t z.mark z.amount
    (omega arith) (omega arith) (rw c.in-Some-Delay.field-0-is at c.in-Some-Delay.ensures))

pub returns-in-Some-Buffer : goal.returns-in-Some-Buffer
returns-in-Some-Buffer c =
    let z = c.args in
    c.buffer_makes.ensures ∙ sym (sound-buffer z.windows.now z.arrived.now z.delay z.buffer z.s z.t z.mark z.amount
    (omega arith) (omega arith) (rw c.in-Some-Buffer.field-0-is at c.in-Some-Buffer.ensures))

pub returns-in-None : goal.returns-in-None
returns-in-None c =
    let z = c.args in
    sym (sound_unmarked z.windows.now z.arrived.now z.delay z.buffer z.s z.t z.mark z.amount (omega arith) (omega arith) (search rules) (search rules) (search rules))
