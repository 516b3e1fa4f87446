-- `find` puts the chain to the link's first slot and then the link.
use Rattle.std.proofs.Common.{refl, arith}
use Rattle.found_links.proofs.FoundLinksPut.{put-start, put-link}
use Rattle.found_links.proofs.find.+find.Goals as goal

pub returns-in_default : goal.returns-in_default
returns-in_default g c =
    let z = c.args in
    let r = z.rows.now in
    let p = c.requires in
    let done = c.put.ensures in (
      omega arith,
      λ table trace last ready inside.
          put-start table r.delay r.buffer trace z.slots.now z.marks.now z.amounts.now last r.reach r.admitted r.lost r.departed r.starts ready
          z.t _ _ inside c.link_to.ensures.found _ _ _ (rw c.in_default.is refl)
          (omega (arith, p.1)) (omega (arith, p.2)) (omega (arith, p.3)) done.0 done.1 done.2,
    )

pub returns : goal.returns
returns g c =
    let z = c.args in
    let r = z.rows.now in
    let p = c.requires in
    let done = c.put-2.ensures in
    let part = c.find-places.ensures in
    let link = c.in-Some.link in (
      omega (arith, part.0, c.in-Some.ensures.early),
      λ table trace last ready inside.
          put-link table r.delay r.buffer trace z.slots.now z.marks.now z.amounts.now last r.reach r.admitted r.lost r.departed r.starts ready
          z.t link.from c.number-mark.result inside (λ f a u v rows some. rw c.number-mark.ensures (c.in-Some.ensures.found f a u v rows some))
          _ _ _ _ _ _ _ _ c.in-Some.ensures.early p.1 p.2 p.3 c.grown-amount.ensures
          (part.1 table trace last ready (omega (arith, c.in-Some.ensures.early))) done.0 done.1 done.2,
    )
