-- `bezhantiru_counts_part` takes the size of the reader's part, which ends where an accepted file ends.
use Rattle.std.proofs.Common.{refl, sym, ◌∙◌}
use Rattle.orders.proofs.Given.{given_none, given_number, refusal_numbered}
use Rattle.exports.proofs.CountsStand.{part_none, part_inside, part-last}
use Rattle.exports.proofs.part.bezhantiru_counts_part.Goals as goal

pub returns-in-Err : goal.returns-in-Err
returns-in-Err c =
    part_none c.args.file.now c.counts_of-part.result.now c.counts_of-part.ensures.0 c.number.result
    (λ e. refusal_numbered c.in-Err.refusal (sym c.number.ensures ∙ e))
    (c.number.ensures ∙ given_number c.file_refusal.result c.in-Err.refusal _ c.file_refusal.ensures c.in-Err.is)

pub returns-in-Ok : goal.returns-in-Ok
returns-in-Ok c =
    part-last c.args.file.now c.counts_of-part.result.now c.counts_of-part.ensures.0 0 refl
    (sym (given_none c.file_refusal.result _ _ c.file_refusal.ensures c.in-Ok.is))

pub overflow_sub-result : goal.overflow_sub-result
overflow_sub-result c =
    part_inside c.args.file.now c.counts_of-part.result.now c.counts_of-part.ensures.0
    (given_none c.file_refusal.result _ _ c.file_refusal.ensures c.in-Ok.is)
