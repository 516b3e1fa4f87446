-- `admitted_holds` asks whether what the total grows by is a usable amount.
use mathlib.Core.Path.{◌≡◌, sym, ap, ◌∙◌}
use Prim.Native.Nat.{ℕ, ◌+◌, ◌≤◌}
use borrow.Author.Rules.{rules}
use native.Mathlib.Omega.{arith}
use Rattle.chain.specs.Links.{row_sound}
use Rattle.certificate.proofs.HeldLinks.{held-late, held_beyond, held_sound}
use Rattle.certificate.proofs.held.Rows.admitted_holds.Goals as goal

pub returns-then-s-t : goal.returns-then-s-t
returns-then-s-t c = let z = c.args in let r = z.self.now in
    λ table trace u v rows. held-late table r.delay r.buffer trace z.slots u z.t z.from z.mark (search rules)

pub returns-then-t-self : goal.returns-then-t-self
returns-then-t-self c = let z = c.args in let r = z.self.now in
    λ table trace u v rows. held_beyond table r.delay r.buffer trace z.slots u z.t z.from z.mark (search rules) (search rules)

pub returns : goal.returns
returns c =
    let z = c.args in let r = z.self.now in
    let due : z.mark ≡ 2 → z.t + r.delay ≤ z.slots = λ e.
    elim c.else-mark-number.branch [
      | goal.else-mark-number-via-then-mark-number+else-t-self w ↦ omega arith
      | goal.else-mark-number-via-else-mark-number w ↦ absurd (w.if-mark-number.false (e ∙ sym c.number.ensures))
    ] in
    λ table trace u v rows.
    c.link_sound.ensures
    ∙ ap (λ (n : ℕ). row_sound r.windows.now r.arrived.now r.delay r.buffer z.from z.t z.mark n) c.grown-packets.ensures
    ∙ held_sound table r.delay r.buffer trace z.slots u z.t z.from z.mark v r.windows.now r.arrived.now
    r.admitted.now r.departed.now rows (search rules) c.requires.0 due
