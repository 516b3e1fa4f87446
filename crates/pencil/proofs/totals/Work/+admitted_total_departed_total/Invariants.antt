-- The cycle of calls of `admitted_total` and `departed_total`: X(t) calls both at earlier slots, Y(t) calls X at slots up to t, so
-- 2·t and 2·t + 1 fall at each call.
use Rattle.std.proofs.Common.{◌-◌, ◌≡◌, ◌+◌, ◌*◌, ◌≤◌, get_or}
use Rattle.calculus.specs.Numbers.Least.{least}
use Rattle.calculus.specs.Numbers.Limit.{delay_limit, buffer_limit}
use Rattle.calculus.specs.Regulators.Rows.{admitted_by, departed_by}
use Rattle.pencil.proofs.totals.Work.+admitted_total_departed_total.Given as goal

abbrev pub decreases-admitted_total : goal.decreases-admitted_total
decreases-admitted_total l = 2 * l.t

abbrev pub decreases-departed_total : goal.decreases-departed_total
decreases-departed_total l = 2 * l.t + 1

abbrev pub invariant-admitted_total-loop-k : goal.invariant-admitted_total-loop-k
invariant-admitted_total-loop-k l =
    (1 ≤ l.k) × (l.k ≤ l.t) × (l.late ≡ least 1 l.k (λ k. departed_by l.self.table.now (delay_limit l.self.delay) (buffer_limit l.self.buffer) l.self.arrivals.now (l.t - k) + get_or l.self.near.now (k + l.ahead) 0))

abbrev pub invariant-departed_total-loop-s : goal.invariant-departed_total-loop-s
invariant-departed_total-loop-s l =
    (l.s ≤ l.t) × (l.least ≡ least 0 l.s (λ s. admitted_by l.self.table.now (delay_limit l.self.delay) (buffer_limit l.self.buffer) l.self.arrivals.now s + get_or l.self.near.now (l.t - s) 0))
