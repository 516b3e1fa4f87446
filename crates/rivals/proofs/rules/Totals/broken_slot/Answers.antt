-- `broken_slot` tries the slots from 1 on.
use Rattle.std.proofs.Common.{◌≡◌, ◌-◌, ◌≤◌, length, refl, arith, lt-ltb, le-ltb}
use Rattle.rival_calculus.specs.Broken.{first_up_to, broken_slot}
use Rattle.rivals.specs.Rules.{rule_of}
use Rattle.rivals.proofs.TriedRules.{breaks, first_on, first_at}
use Rattle.rivals.proofs.RuleNumbers.{rule_some}
use Rattle.rivals.proofs.rules.Totals.broken_slot.Goals as goal

pub loop-t-init : goal.loop-t-init
unfolding first_up_to
loop-t-init c = (omega arith, refl)

pub returns-in-Some : goal.returns-in-Some
unfolding broken_slot
returns-in-Some c =
    let z = c.args.self.now in
    let within : c.loop-t.t ≤ length z.arrivals.now = omega arith in
    let some : 1 ≤ rule_of z c.loop-t.t = omega (arith, rule_some c.in-Some.rule, c.in-Some.ensures) in
    let first = first_at (breaks z.table.now z.arrivals.now z.admitted.now z.departed.now z.delay z.buffer) c.loop-t.t (omega arith) c.loop-t.invariant.1 _ within
    (lt-ltb 0 (rule_of z c.loop-t.t) some) in
    (first, omega arith, within, c.in-Some.ensures)

pub loop-t-preserved : goal.loop-t-preserved
loop-t-preserved c =
    let z = c.args.self.now in
    let none : rule_of z c.loop-t.t ≡ 0 = c.in_default.ensures in
    let kept = first_on (breaks z.table.now z.arrivals.now z.admitted.now z.departed.now z.delay z.buffer) c.loop-t.t (omega arith) c.loop-t.invariant.1
    (le-ltb 0 (rule_of z c.loop-t.t) (omega arith)) in
    (omega arith, kept)

pub returns : goal.returns
unfolding broken_slot
returns c =
    let last : c.loop-t.t - 1 ≡ length c.args.self.now.arrivals.now = omega arith in
    rw last at c.loop-t.invariant.1
