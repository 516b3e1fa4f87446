-- `entries_refusal` passes on the judgment of the entries that are left.
use Rattle.std.proofs.Common.{rules, sym, ap, ◌∙◌, drop}
use Rattle.orders.specs.Answered.{number_given, refusal_number}
use Rattle.refusals.specs.Table.{entries_refusal}
use Rattle.refusals.proofs.TableJudged.{entries_done, entries_large, entries_falls, entries_fine}
use Rattle.refusals.proofs.table.entries_refusal.Goals as goal

pub returns-in_default : goal.returns-in_default
unfolding number_given
returns-in_default c = sym (entries_done 0 c.args.table.now 1 (search rules))

pub loop-entry-init : goal.loop-entry-init
loop-entry-init c = ap (λ l. entries_refusal 0 (drop 1 l)) c.in-Some.ensures.cases.0

pub returns-then-entry-gt-MOST_PACKETS_32 : goal.returns-then-entry-gt-MOST_PACKETS_32
unfolding number_given refusal_number
returns-then-entry-gt-MOST_PACKETS_32 c =
    let l = c.loop-entry in
    sym (l.invariant ∙ entries_large l.before c.in-Some.entries.now l.entry-index c.loop-entry-test.true c.if-entry-gt-MOST_PACKETS_32.true)

pub returns-then-entry-before : goal.returns-then-entry-before
unfolding number_given refusal_number
returns-then-entry-before c =
    let l = c.loop-entry in
    sym (l.invariant ∙ entries_falls l.before c.in-Some.entries.now l.entry-index c.loop-entry-test.true c.if-entry-gt-MOST_PACKETS_32.false c.if-entry-before.true)

pub loop-entry-preserved : goal.loop-entry-preserved
loop-entry-preserved c =
    let l = c.loop-entry in
    l.invariant ∙ entries_fine l.before c.in-Some.entries.now l.entry-index c.loop-entry-test.true c.if-entry-gt-MOST_PACKETS_32.false c.if-entry-before.false

pub returns : goal.returns
unfolding number_given
returns c =
    let l = c.loop-entry in
    sym (l.invariant ∙ entries_done l.before c.in-Some.entries.now l.entry-index c.loop-entry-test.false)
