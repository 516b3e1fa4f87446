-- `fill_links` writes the found links of one slot a turn.
use Rattle.std.proofs.Common.{◌≡◌, refl, arith, rules}
use Rattle.found_links.specs.Links.{from_of, by_of}
use Rattle.found_links.proofs.FilledLinks.{filling-first, after_low, filling_next, filling-last}
use Rattle.found_links.proofs.certify.fill_links.Goals as goal
use Rattle.found_links.proofs.certify.fill_links.Goals.{in-Some, in-None}

pub loop-t-init : goal.loop-t-init
loop-t-init c =
    let z = c.args in
    let r = z.rows.now in
    filling-first r.delay r.buffer r.reach r.admitted r.lost r.departed r.starts z.from.now z.by.now z.gone.now
    (search rules) (search rules) (search rules)

pub same_loss-same-requires : goal.same_loss-same-requires
same_loss-same-requires c =
    let l = c.loop-t in
    (omega (arith, l.invariant.low, l.invariant.within, c.requires.0), omega (arith, c.loop-t-test.true, c.requires.0))

pub admitted_link-requires : goal.admitted_link-requires
admitted_link-requires c =
    let r = c.args.rows.now in
    let l = c.loop-t in (
      omega arith,
      omega (arith, c.loop-t-test.true, c.requires.3),
      omega (arith, c.requires.0, c.requires.3),
      after_low r.delay r.buffer r.reach r.admitted r.lost r.departed r.starts l.from l.by l.gone l.same l.t l.invariant _ c.same_loss-same.ensures,
    )

pub loop-t-preserved : goal.loop-t-preserved
loop-t-preserved c =
    let r = c.args.rows.now in
    let l = c.loop-t in
    let m = c.match-admitted_link in
    let first : m.from.0 ≡ from_of c.admitted_link.result = elim m.branch [
      | in-Some w ↦ rw (w.from-is, w.in-Some.is) refl
      | in-None w ↦ rw (w.from-is, w.in-None.is) refl
    ] in
    let mark : m.from.1 ≡ by_of c.admitted_link.result = elim m.branch [
      | in-Some w ↦ rw (w.from-is, w.in-Some.is) w.number.ensures
      | in-None w ↦ rw (w.from-is, w.in-None.is) refl
    ] in
    filling_next r.delay r.buffer r.reach r.admitted r.lost r.departed r.starts l.from l.by l.gone l.same l.t l.invariant
    _ _ _ _ (omega (arith, c.loop-t-test.true, c.requires.3)) c.same_loss-same.ensures
    (λ f a u v rows earliest. rw (first, mark) (c.admitted_link.ensures.found f a u v rows earliest)) refl

pub returns : goal.returns
returns c =
    let r = c.args.rows.now in
    let l = c.loop-t in
    filling-last r.delay r.buffer r.reach r.admitted r.lost r.departed r.starts l.from l.by l.gone l.same l.t l.invariant
    (omega (arith, c.loop-t-test.false, c.requires.3))
