-- `start_row` works one slot a turn.
use Rattle.std.proofs.Common.{◌≡◌, ◌+◌, ◌-◌, ◌∙◌, arith, rules, length, length-set}
use lib.ListN.{set}
use lib.Seq.{get_or-set_same}
use Rattle.found_links.proofs.StartRow.{starts_none, starts_at}
use Rattle.found_links.proofs.starts.start_row.Goals as goal

pub loop-t-init : goal.loop-t-init
loop-t-init c =
    let z = c.args in
    let long : length z.starts.now ≡ 4161 = search rules in
    (omega arith, length-set z.starts.now 0 0 ∙ long, starts_none z.table.now z.departed.now z.slots (set z.starts.now 0 0) (get_or-set_same z.starts.now 0 0 0 (omega (arith, long))))

pub loop-t-preserved : goal.loop-t-preserved
loop-t-preserved c =
    let z = c.args in
    let l = c.loop-t in
    let next : l.t + 1 - 1 ≡ l.t = omega arith in (
      omega arith,
      length-set l.starts _ _ ∙ l.invariant.1,
      rw next (starts_at z.table.now z.departed.now z.slots l.starts l.t _ (omega arith) l.invariant.2 (omega arith) c.requires l.invariant.1 c.start_to.ensures),
    )

pub returns : goal.returns
returns c =
    let l = c.loop-t in
    let last : l.t - 1 ≡ c.args.slots = omega arith in
    rw last at l.invariant.2
