-- `lack_at` tests one link after the other.
use mathlib.Core.Path.{sym, ◌∙◌}
use Rattle.calculus.specs.Numbers.Limit.{delay_limit, buffer_limit}
use Rattle.calculus.specs.Regulators.Trace.{arrivals}
use Rattle.calculus.specs.Regulators.Rows.{envelope_of}
use Rattle.certificate_calculus.specs.Certificate.{links_of}
use lib.ListN.{length}
use Rattle.certificate.proofs.FirstLack.{slot-number, lack_six, lack_seven, lack_nothing}
use Rattle.certificate.proofs.held.Rows.lack_at.Goals as goal

pub returns-then-not-admitted_holds : goal.returns-then-not-admitted_holds
returns-then-not-admitted_holds c =
    let z = c.args in
    let r = z.self.now in
    let l = z.links.now in
    λ table trace u v rows.
    lack_six (envelope_of table) (delay_limit r.delay) (buffer_limit r.buffer) (arrivals trace) (length l.from.now) u v
    (links_of l.from.now l.by.now l.gone.now) z.t
    (sym (c.if-not-admitted_holds.true)
    ∙ (rw (slot-number l.from.now z.t c.requires.1, slot-number l.by.now z.t c.requires.1) at
    (c.admitted_holds.ensures table trace u v rows)))

pub returns-else-not-departed_holds : goal.returns-else-not-departed_holds
returns-else-not-departed_holds c =
    let z = c.args in
    let r = z.self.now in
    let l = z.links.now in
    λ table trace u v rows.
    lack_nothing (envelope_of table) (delay_limit r.delay) (buffer_limit r.buffer) (arrivals trace) (length l.from.now) u v
    (links_of l.from.now l.by.now l.gone.now) z.t
    (sym (c.if-not-admitted_holds.false)
    ∙ (rw (slot-number l.from.now z.t c.requires.1, slot-number l.by.now z.t c.requires.1) at
    (c.admitted_holds.ensures table trace u v rows)))
    (sym c.if-not-departed_holds.false
    ∙ (rw (slot-number l.gone.now z.t c.requires.1) at (c.departed_holds.ensures table trace u v rows)))

pub returns-then-not-departed_holds : goal.returns-then-not-departed_holds
returns-then-not-departed_holds c =
    let z = c.args in
    let r = z.self.now in
    let l = z.links.now in
    λ table trace u v rows.
    lack_seven (envelope_of table) (delay_limit r.delay) (buffer_limit r.buffer) (arrivals trace) (length l.from.now) u v
    (links_of l.from.now l.by.now l.gone.now) z.t
    (sym (c.if-not-admitted_holds.false)
    ∙ (rw (slot-number l.from.now z.t c.requires.1, slot-number l.by.now z.t c.requires.1) at
    (c.admitted_holds.ensures table trace u v rows)))
    (sym c.if-not-departed_holds.true
    ∙ (rw (slot-number l.gone.now z.t c.requires.1) at (c.departed_holds.ensures table trace u v rows)))
