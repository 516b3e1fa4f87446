-- `capped` goes through the entries; those that it has not reached are as they were given.
use mathlib.Core.Path.{refl, ap, ◌∙◌}
use Prim.Native.Nat.{ℕ, min}
use native.Mathlib.Omega.{arith}
use lib.ListN.{get_or, length-set}
use lib.Seq.{get_or-set_other}
use Rattle.calculus.specs.Numbers.Lists.{list_of}
use Rattle.calculus.proofs.Numbers.Lists.{list_of_filled, list_of_full}
use Rattle.envelope.specs.Envelope.{capped_table}
use borrow.Author.Rules.{rules}
use Rattle.envelope.proofs.table.capped.Goals as goal

pub loop-k-init : goal.loop-k-init
unfolding list_of
loop-k-init c = (search rules, search rules, λ i p. refl)

pub loop-k-preserved : goal.loop-k-preserved
loop-k-preserved c =
    let l = c.loop-k in (
      simp length-set l.invariant.0,
      list_of_filled (λ i. min (get_or c.args.table i 0) 1000000) l.out l.k c.min.result (omega arith) l.invariant.1
          (c.min.ensures ∙ ap (λ (x : ℕ). min x 1000000) (l.invariant.2 l.k (omega arith))),
      λ i p. get_or-set_other l.out l.k i _ 0 (λ e. omega arith) ∙ l.invariant.2 i (omega arith),
    )

pub returns : goal.returns
unfolding capped_table
returns c =
    let l = c.loop-k in
    list_of_full (λ i. min (get_or c.args.table i 0) 1000000) l.out 65 l.k (search rules) (search rules) l.invariant.0 l.invariant.1
