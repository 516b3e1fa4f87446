-- `put_table` tests the room and puts the table.
use mathlib.Core.Path.{sym, ◌∙◌}
use lib.ListN.{length}
use Rattle.text.proofs.Put.{nothing_printed}
use Rattle.text.proofs.Printed.{table_columns, table_fits_lem, table_left_out}
use Rattle.text.proofs.print.put_table.Goals as goal

pub put_whole-requires : goal.put_whole-requires
put_whole-requires c =
    let z = c.args in
    table_columns z.arrived.now z.admitted.now z.dropped.now z.departed.now (length z.out.now) (sym c.fit.ensures ∙ c.if-fit.true)

pub returns-then-fit : goal.returns-then-fit
returns-then-fit c =
    let z = c.args in
    rw (table_fits_lem z.arrived.now z.admitted.now z.dropped.now z.departed.now (length z.out.now) (sym c.fit.ensures ∙ c.if-fit.true))
    c.put_whole.ensures

pub returns-else-fit : goal.returns-else-fit
returns-else-fit c =
    let z = c.args in
    rw (table_left_out z.arrived.now z.admitted.now z.dropped.now z.departed.now (length z.out.now) (sym c.fit.ensures ∙ c.if-fit.false))
    (nothing_printed z.out.now)
