-- `start_to` takes the earlier of the earliest so far and the next window's.
use Rattle.std.proofs.Common.{◌∙◌, arith}
use Rattle.found_links.specs.FoundRows.{start_via}
use Rattle.found_links.proofs.LeastTo.{least_none, least_on}
use Rattle.found_links.proofs.starts.start_to.Goals as goal

pub loop-k-init : goal.loop-k-init
loop-k-init c = let z = c.args in
    (omega arith, least_none z.t (start_via z.table.now z.departed.now z.starts.now z.t))

pub loop-k-preserved : goal.loop-k-preserved
loop-k-preserved c =
    let z = c.args in
    let l = c.loop-k in (
      omega arith,
      c.min-first.ensures ∙ least_on z.t (start_via z.table.now z.departed.now z.starts.now z.t) l.k _ _ (omega arith) l.invariant.1 c.start_via.ensures,
    )
