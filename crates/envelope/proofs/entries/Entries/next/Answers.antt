-- `next` takes the least sum over the values before it, the last and the newest apart.
use mathlib.Core.Path.{◌≡◌, sym, ap, ◌∙◌}
use Prim.Native.Nat.{ℕ, ◌+◌, ◌≤◌, min}
use native.Mathlib.Omega.{arith}
use lib.ListN.{get_or}
use Rattle.envelope.proofs.ClosureRow.{first_fits, between_fits, end_fits, closed_by-alone}
use Rattle.envelope.proofs.FirstPiece.{told_one, told-first, next_worked}
use Rattle.envelope.proofs.entries.Entries.next.Goals as goal

pub overflow_add-first : goal.overflow_add-first
overflow_add-first c =
    let z = c.args in
    let e = z.self.now in
    let pre = c.requires in
    first_fits e.table.now e.last e.some e.small z.n z.newest pre.1 pre.3

pub overflow_add-whole : goal.overflow_add-whole
overflow_add-whole c =
    let z = c.args in
    let e = z.self.now in
    let pre = c.requires in
    let fewest = c.min-m in
    let two : 2 ≤ fewest.result = omega arith in
    end_fits e.table.now e.last e.some e.small z.row.now z.at z.n pre.4 fewest.result fewest.ensures two pre.1

pub returns-then-m-eq1 : goal.returns-then-m-eq1
returns-then-m-eq1 c =
    let z = c.args in
    let e = z.self.now in
    let pre = c.requires in
    let one : min z.n e.last ≡ 1 = sym c.min-m.ensures ∙ c.if-m-eq1.true in
    let alone = closed_by-alone e.table.now e.last e.some e.small z.row.now z.at z.n pre.4 pre.0 pre.1 one in (
      ap (λ (n : ℕ). n + get_or e.table.now 1 0) pre.3 ∙ alone,
      told_one _ _ _ _ (told-first e.table.now e.last z.row.now z.at z.n e.some pre.0 pre.4 alone),
    )

pub least_with-between-requires : goal.least_with-between-requires
least_with-between-requires c =
    let fewest = c.min-m in
    let z = c.args in
    let e = z.self.now in
    let pre = c.requires in
    between_fits e.table.now e.last e.some e.small z.row.now z.at z.n pre.4 pre.1 pre.2 e.reached
    fewest.result fewest.ensures

pub returns : goal.returns
returns c =
    let other = c.if-m-eq1.false in
    let z = c.args in
    let e = z.self.now in
    let pre = c.requires in
    let fewest = c.min-m in
    let between = c.least_with-between in
    let lower = c.min in
    let least = c.min-f in
    next_worked e.table.now e.last z.row.now z.at z.n e.some pre.0 pre.4 e.small pre.1
    fewest.result fewest.ensures other
    z.newest between.result lower.result least.result pre.3 between.ensures lower.ensures least.ensures
