-- `read_run` adds up the lists, goes on beyond them, and looks for the first slots of departed links.
use Rattle.found_links.proofs.OurRows.{run_long, our_rows}
use Rattle.found_links.proofs.rows.Rows.read_run.Goals as goal

pub returns-clause-ours : goal.returns-clause-ours
returns-clause-ours c =
    let z = c.args in
    λ d q trace one two three none admits drops departs.
    our_rows z.table.now d q trace one two three none _ _ _ admits drops departs _ _ _ _ _ _
    c.total_row.ensures c.total_row-2.ensures c.total_row-3.ensures
    _ z.self.now.reach _ _ _ _ (run_long z.table.now d q trace one two three none _ _ _ admits drops departs)
    c.go_on.ensures c.start_row.ensures
