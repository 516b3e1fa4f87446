-- `size_refusal` takes the first number of its parts.
use Rattle.std.proofs.Common.{◌∙◌, rules}
use Rattle.orders.proofs.Given.{refused_first, passed_first}
use Rattle.size.proofs.Beside.{size-first}
use Rattle.size.proofs.size_refusal.Goals as goal

pub returns-in_err-table_refusal : goal.returns-in_err-table_refusal
returns-in_err-table_refusal c =
    let z = c.args in
    refused_first c.table_refusal.result c.from_residual.result c.in_err-table_refusal.field-0.0 _ _ c.table_refusal.ensures (search rules) (search rules)
    ∙ size-first z.table.now z.kept z.arrivals.now

pub returns-in_err-kept_refusal : goal.returns-in_err-kept_refusal
returns-in_err-kept_refusal c =
    let z = c.args in
    passed_first c.table_refusal.result _ _ _ _ c.table_refusal.ensures (search rules)
    (refused_first c.kept_refusal.result c.from_residual-in_err-kept_refusal.result c.in_err-kept_refusal.field-0.0 _ _ c.kept_refusal.ensures (search rules) (search rules))
    ∙ size-first z.table.now z.kept z.arrivals.now

pub returns : goal.returns
returns c =
    let z = c.args in
    passed_first c.table_refusal.result _ _ _ _ c.table_refusal.ensures (search rules)
    (passed_first c.kept_refusal.result _ _ _ _ c.kept_refusal.ensures (search rules) c.counted_refusal.ensures)
    ∙ size-first z.table.now z.kept z.arrivals.now
