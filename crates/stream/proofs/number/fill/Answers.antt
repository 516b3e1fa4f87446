-- `fill` writes the numbers one after the other: after k turns the first k stand there.
use mathlib.Core.Path.{refl}
use Prim.Native.Nat.{ℕ, ◌+◌}
use lib.ListN.{length-set}
use borrow.Author.Rules.{rules}
use Rattle.calculus.specs.Numbers.Lists.{list_of}
use Rattle.calculus.proofs.Numbers.Lists.{list_of_filled}
use Rattle.stream.specs.Format.{number_at}
use Rattle.stream.proofs.number.fill.Goals as goal

pub loop-k-init : goal.loop-k-init
unfolding list_of
loop-k-init c = (search rules, search rules, refl)

pub loop-k-preserved : goal.loop-k-preserved
loop-k-preserved c =
    let z = c.args in
    let l = c.loop-k in (
      simp length-set l.invariant.0,
      search rules,
      list_of_filled (λ (i : ℕ). number_at z.file.now (z.from + i)) l.out l.k
          c.number_at.result (search rules) l.invariant.2 c.number_at.ensures,
    )
