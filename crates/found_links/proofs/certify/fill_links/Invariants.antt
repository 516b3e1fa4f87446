-- `fill_links` writes the found links of one slot a turn.
use Rattle.found_links.proofs.FilledLinks.{Filling}
use Rattle.found_links.proofs.certify.fill_links.Given as goal

abbrev pub invariant-loop-t : goal.invariant-loop-t
invariant-loop-t l =
    Filling l.rows.delay l.rows.buffer l.rows.reach l.rows.admitted l.rows.lost l.rows.departed l.rows.starts l.from l.by l.gone l.same l.t
