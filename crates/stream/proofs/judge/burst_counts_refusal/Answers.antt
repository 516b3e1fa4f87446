-- `burst_counts_refusal` passes on the judgment of the bursts that are left.
use mathlib.Core.Path.{sym, ◌∙◌}
use native.Mathlib.Omega.{arith}
use borrow.Author.Rules.{rules}
use Rattle.orders.specs.Answered.{number_given}
use Rattle.orders.proofs.Given.{refused_first, given_none}
use Rattle.stream.proofs.Bursts.{file_counts_here, file_counts_fine, file_counts_done}
use Rattle.stream.proofs.judge.burst_counts_refusal.Goals as goal

pub returns-in_err-arrivals_refusal : goal.returns-in_err-arrivals_refusal
returns-in_err-arrivals_refusal c =
    let l = c.loop-k in
    let counted = rw c.from.ensures at c.arrivals_refusal.ensures in
    let read = rw (c.number_at.ensures, c.number_at-bursts.ensures) at c.number_at-count.ensures in
    refused_first c.arrivals_refusal.result c.from_residual.result c.in_err-arrivals_refusal.field-0.0 _ _ counted (search rules) (search rules)
    ∙ sym (l.invariant ∙ file_counts_here c.args.file.now l.k c.number_at-count.result (omega (arith, c.number_at-bursts.ensures)) read)

pub loop-k-preserved : goal.loop-k-preserved
loop-k-preserved c =
    let l = c.loop-k in
    let counted = rw c.from.ensures at c.arrivals_refusal.ensures in
    let read = rw (c.number_at.ensures, c.number_at-bursts.ensures) at c.number_at-count.ensures in
    l.invariant ∙ file_counts_fine c.args.file.now l.k c.number_at-count.result (omega (arith, c.number_at-bursts.ensures)) read
    (given_none c.arrivals_refusal.result _ _ counted (search rules))

pub returns : goal.returns
unfolding number_given
returns c = sym (c.loop-k.invariant ∙ file_counts_done c.args.file.now c.loop-k.k (omega (arith, c.number_at-bursts.ensures)))
