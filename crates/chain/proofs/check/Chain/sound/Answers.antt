-- `sound` tests one link a turn.
use Rattle.std.proofs.Common.{◌≡◌, ◌+◌, ◌-◌, sym, ◌∙◌, arith, rules}
use Rattle.chain.proofs.CheckedPlaces.{none_unsound, more_unsound, start_unsound, above_unsound, row_unsound, links_none, row_more, links_sound_lem}
use Rattle.chain.proofs.check.Chain.sound.Goals as goal
use Rattle.chain.proofs.check.Chain.sound.Goals.{then-self-eq0-via-then-self-eq0, then-self-eq0-via-else-self-eq0+then-self, then-self-eq0-via-else-self-eq0+else-self+then-not-start_sound}

pub returns-then-self-eq0 : goal.returns-then-self-eq0
returns-then-self-eq0 c =
    let z = c.args in let h = z.self.now in
    λ table trace ready. elim c.then-self-eq0.branch [
      | then-self-eq0-via-then-self-eq0 w ↦
          sym (none_unsound table z.delay z.buffer trace z.t h.slots.now h.marks.now h.amounts.now h.places (search rules))
      | then-self-eq0-via-else-self-eq0+then-self w ↦
          sym (more_unsound table z.delay z.buffer trace z.t h.slots.now h.marks.now h.amounts.now h.places (search rules))
      | then-self-eq0-via-else-self-eq0+else-self+then-not-start_sound w ↦
          sym (start_unsound table z.delay z.buffer trace z.t h.slots.now h.marks.now h.amounts.now h.places
          (sym w.start_sound.ensures ∙ w.if-not-start_sound.true))
    ]

pub loop-n-init : goal.loop-n-init
loop-n-init c = let z = c.args in let h = z.self.now in
    λ table trace ready. links_none table z.delay z.buffer trace z.t h.slots.now h.marks.now h.amounts.now

pub returns-then-self-next : goal.returns-then-self-next
returns-then-self-next c =
    let z = c.args in let h = z.self.now in
    λ table trace ready. sym (above_unsound table z.delay z.buffer trace z.t h.slots.now h.marks.now h.amounts.now
    h.places (c.loop-n.n + 1) (search rules) (search rules))

pub returns-then-not-link_sound : goal.returns-then-not-link_sound
returns-then-not-link_sound c =
    let z = c.args in let h = z.self.now in
    let fails = sym c.link_sound.ensures ∙ c.if-not-link_sound.true in
    λ table trace ready. sym (row_unsound table z.delay z.buffer trace z.t h.slots.now h.marks.now h.amounts.now
    z.windows.now z.arrived.now ready c.loop-n.n (search rules) h.places (search rules) fails)

pub loop-n-preserved : goal.loop-n-preserved
loop-n-preserved c =
    let z = c.args in let h = z.self.now in
    let holds = sym c.link_sound.ensures ∙ c.if-not-link_sound.false in
    λ table trace ready. row_more table z.delay z.buffer trace z.t h.slots.now h.marks.now h.amounts.now
    z.windows.now z.arrived.now ready c.loop-n.n (search rules) (c.loop-n.invariant table trace ready) holds

pub returns : goal.returns
returns c =
    let z = c.args in let h = z.self.now in
    let same : c.loop-n.n ≡ h.places - 1 = omega arith in
    let start = sym c.start_sound.ensures ∙ c.if-not-start_sound.false in
    λ table trace ready. sym (links_sound_lem table z.delay z.buffer trace z.t h.slots.now h.marks.now h.amounts.now h.places
    (h.places - 1) (omega arith) (search rules) start (rw (← same) (c.loop-n.invariant table trace ready)))
