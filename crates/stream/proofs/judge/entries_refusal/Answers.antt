-- `entries_refusal` judges the filled list, which is the table.
use mathlib.Core.Path.{ap, ◌∙◌}
use Prim.Native.Nat.{ℕ, ◌+◌}
use native.Mathlib.Omega.{arith}
use lib.ListN.{replicate}
use lib.Seq.{length-take-le}
use Rattle.refusals.specs.Table.{values_refusal}
use Rattle.stream.proofs.FileJudged.{table_filled}
use Rattle.stream.proofs.judge.entries_refusal.Goals as goal

pub returns : goal.returns
returns c =
    let long = length-take-le (c.number_at.result + 1) (replicate 65 0) (omega (arith, c.number_at.ensures)) in
    let same = table_filled c.args.file.now _ _ (long ∙ ap (λ (n : ℕ). n + 1) c.number_at.ensures) c.fill.ensures in
    c.values_refusal.ensures ∙ ap values_refusal same
