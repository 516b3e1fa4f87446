-- `broken_window` tries the windows from 1 on.
use Rattle.std.proofs.Common.{◌≡◌, ◌-◌, ◌≤◌, min, refl, arith, lt-ltb, le-ltb}
use Rattle.refusals.specs.Table.{last_window}
use Rattle.rival_calculus.specs.Broken.{first_up_to, over_window, broken_window}
use Rattle.rivals.proofs.TriedRules.{held, first_on, first_at}
use Rattle.rivals.proofs.rules.Totals.broken_window.Goals as goal

pub loop-k-init : goal.loop-k-init
unfolding first_up_to
loop-k-init c = (omega arith, refl)

pub returns-then-saturating_sub-from : goal.returns-then-saturating_sub-from
unfolding broken_window over_window
returns-then-saturating_sub-from c =
    let z = c.args.self.now in
    let last : c.loop-k.k ≤ min (last_window z.table.now) c.args.t = omega arith in
    (first_at (over_window z.table.now (held z.departed.now) c.args.t) c.loop-k.k (omega arith) c.loop-k.invariant.1 _ last (omega (arith, lt-ltb)), omega arith)

pub loop-k-preserved : goal.loop-k-preserved
unfolding over_window
loop-k-preserved c =
    let z = c.args.self.now in
    (omega arith, first_on (over_window z.table.now (held z.departed.now) c.args.t) c.loop-k.k (omega arith) c.loop-k.invariant.1 (omega (arith, le-ltb)))

pub returns : goal.returns
unfolding broken_window
returns c =
    let last : c.loop-k.k - 1 ≡ min (last_window c.args.self.now.table.now) c.args.t = omega arith in
    rw last at c.loop-k.invariant.1
